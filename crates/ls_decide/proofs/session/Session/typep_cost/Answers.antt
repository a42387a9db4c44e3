use Rattle.std.proofs.Common.{ap, sym, subst, ◌∙◌, ◌∷◌, [], IfOk}
use Rattle.std.specs.List.{sum_by}
use Rattle.ls_spec.specs.Meaning.{specifier}
use Rattle.ls_lists.specs.Walks.{sum}
use Rattle.ls_lists.specs.Costs.{element_lists}
use Rattle.ls_intern.proofs.PlaceLemmas.{at_grown}
use Rattle.ls_decide.specs.Answers.{TellsCost}
use Rattle.ls_decide.proofs.CostLemmas.{type_cost_is}
use Rattle.ls_decide.proofs.session.Session.typep_cost.Goals as goal

pub returns : goal.returns
returns c =
    let e = at_grown _ _ _ c.in_ok-entries.ensures.grows c.in_ok-id.ensures.within ∙ c.in_ok-id.ensures.is in
    subst (λ x. IfOk c.cost_of_elements.result (TellsCost c.args.budget x)) (ap (λ s. sum_by sum (element_lists (s ∷ []))) e ∙ sym (type_cost_is (specifier c.args.s.now))) c.cost_of_elements.ensures
