use Rattle.std.proofs.Common.{◌≡◌, ◌∙◌, ap, arith, subst}
use Rattle.std.specs.Prelude.{MatchOption, Contains, slice_get, Some}
use Rattle.ls_cells.specs.Rows.{signs_of}
use Rattle.ls_cells.proofs.RowLemmas.{found_is}
use Rattle.ls_cells.proofs.rows.Rows.find.Goals as goal

pub returns : goal.returns
returns c =
    subst (λ ks. MatchOption c.get_index_of.result (¬ Contains ks c.args.signs.now) (λ i. slice_get ks i ≡ Some c.args.signs.now))
    (c.self.invariant.same (omega (arith, c.if-len-lt-MANY.false, c.len.ensures)) ∙ ap signs_of c.self.view_is)
    (found_is c.get_index_of.result c.self.inside.keys.keys c.args.signs.now c.get_index_of.ensures.index c.get_index_of.ensures.found)
