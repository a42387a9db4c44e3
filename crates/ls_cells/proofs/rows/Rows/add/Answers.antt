use Rattle.std.proofs.Common.{◌≡◌, ◌∙◌, sym, ap, subst, ◌++◌, ◌∷◌, []}
use Rattle.std.specs.Prelude.{MatchBool, Contains}
use Rattle.ls_cells.specs.Rows.{signs_of, HasKeysWith, Kept}
use Rattle.ls_cells.proofs.FindLemmas.{kept_more}
use Rattle.ls_cells.proofs.rows.Rows.add.Goals as goal

pub invariant_of-self-2 : goal.invariant_of-self-2
invariant_of-self-2 g c =
    let same : c.as_slice.result.now ≡ c.self.inside.rows.items = c.as_slice.ensures.value ∙ c.reserve.ensures.items in
    let none : ¬ Contains (signs_of c.as_slice.result.now) c.args.row.signs =
    subst (λ b. MatchBool b (¬ Contains (signs_of c.as_slice.result.now) c.args.row.signs) (Contains (signs_of c.as_slice.result.now) c.args.row.signs)) c.if-not-fresh.false c.in_ok-fresh.ensures.fresh in
    subst (λ rows. Kept rows c.keep_key.new.keys) (sym (c.push_reserved.ensures.items ∙ ap (λ rows. rows ++ c.args.row ∷ []) c.reserve.ensures.items))
    (kept_more c.self.inside.rows.items c.args.row c.keep_key.new.keys
    (subst (λ rows. HasKeysWith rows c.args.row.signs c.keep_key.new.keys.keys) same (c.in_ok-fresh.ensures.keys c.if-not-fresh.false)) c.self.invariant.different
    (subst (λ rows. ¬ Contains (signs_of rows) c.args.row.signs) same none) c.self.invariant.plain c.requires)

pub returns-clause-fresh : goal.returns-clause-fresh
returns-clause-fresh g c = λ h.
    let same = c.as_slice.ensures.value ∙ c.reserve.ensures.items ∙ c.self.view_is in
    (subst (λ b. MatchBool b (¬ Contains (signs_of c.as_slice.result.now) c.args.row.signs) (Contains (signs_of c.as_slice.result.now) c.args.row.signs)) c.if-not-fresh.false c.in_ok-fresh.ensures.fresh)
    (subst (λ rows. Contains (signs_of rows) c.args.row.signs) (sym same) h)
