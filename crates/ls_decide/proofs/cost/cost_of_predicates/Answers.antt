use Rattle.std.proofs.Common.{arith, ap, sym, subst, ◌∙◌, ◌∷◌, [], IfOk}
use Rattle.ls_spec.specs.Meaning.{specifier}
use Rattle.ls_spec.specs.Approximation.{low}
use Rattle.ls_spec.specs.Distinct.{distinct}
use Rattle.ls_lists.specs.Walks.{sum}
use Rattle.ls_intern.specs.Places.{at, specifiers_at}
use Rattle.ls_intern.proofs.PlaceLemmas.{at_grown}
use Rattle.ls_decide.specs.Answers.{TellsCost}
use Rattle.ls_decide.proofs.CostLemmas.{no_predicates, some_predicates}
use Rattle.ls_decide.proofs.cost.cost_of_predicates.Goals as goal

pub returns-then-not-has_free_predicate : goal.returns-then-not-has_free_predicate
returns-then-not-has_free_predicate c =
    let e = no_predicates (specifier c.args.a.now) (specifier c.args.b.now) c.has_free_predicate.result c.has_free_predicate.ensures c.if-not-has_free_predicate.true in
    (sym e, omega (arith, e))

pub returns : goal.returns
returns c =
    let e = some_predicates (specifier c.args.a.now) (specifier c.args.b.now) c.has_free_predicate.result c.has_free_predicate.ensures c.if-not-has_free_predicate.false in
    let f = at_grown _ _ _ c.in_ok-upper.ensures.grows c.in_ok-lower.ensures.within ∙ c.in_ok-lower.ensures.is in
    let g = ap (specifiers_at c.add_high.new.table) c.as_slice.ensures ∙ c.in_ok-list.ensures.are
    ∙ ap (λ s. distinct (s ∷ at c.add_high.new.table c.in_ok-upper.upper ∷ [])) f ∙ ap (λ s. distinct (low (specifier c.args.a.now) ∷ s ∷ [])) c.in_ok-upper.ensures.is in
    subst (λ x. IfOk c.cost_of_list.result (TellsCost c.args.budget x)) (ap sum g ∙ sym e) c.cost_of_list.ensures
