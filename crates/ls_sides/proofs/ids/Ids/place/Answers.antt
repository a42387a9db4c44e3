use Rattle.std.proofs.Common.{◌≡◌, ◌∙◌, subst}
use Rattle.std.specs.Prelude.{MatchOption, Contains, slice_get, Some}
use Rattle.ls_sides.proofs.IdLemmas.{place_is}
use Rattle.ls_sides.proofs.ids.Ids.place.Goals as goal

pub returns : goal.returns
returns c =
    subst (λ ks. MatchOption c.get_index_of.result (¬ Contains ks c.args.number) (λ i. slice_get ks i ≡ Some c.args.number))
    (c.self.invariant ∙ c.self.view_is)
    (place_is c.get_index_of.result c.self.inside.seen.keys c.args.number c.get_index_of.ensures.index c.get_index_of.ensures.found)
