use Rattle.std.proofs.Common.{ap, subst, ◌∙◌, IfOk}
use Rattle.ls_intern.specs.Places.{specifiers_at}
use Rattle.ls_decide.specs.Answers.{TellsCost}
use Rattle.ls_decide.proofs.CostLemmas.{elements_are}
use Rattle.ls_decide.proofs.cost.cost_of_elements.Goals as goal

pub returns : goal.returns
returns c =
    subst (λ x. IfOk c.cost_with_entries.result (TellsCost c.args.budget x))
    (elements_are (specifiers_at c.args.table.now c.as_slice.result.now) (specifiers_at c.args.table.now c.args.entries.now) (specifiers_at c.args.table.now c.args.list.now)
    (ap (specifiers_at c.args.table.now) c.as_slice.ensures ∙ c.in_ok-elements.ensures.are) c.requires.entries)
    c.cost_with_entries.ensures
