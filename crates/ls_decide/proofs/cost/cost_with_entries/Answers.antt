use Rattle.std.proofs.Common.{ap, subst, ◌∙◌, ◌<◌, ◌-◌, ◌∷◌}
use Rattle.std.specs.Prelude.{slice_index_or}
use Rattle.ls_spec.specs.Distinct.{distinct}
use Rattle.ls_lists.specs.Walks.{sum}
use Rattle.ls_intern.specs.Places.{specifiers_at}
use Rattle.ls_decide.specs.Answers.{TellsCost}
use Rattle.ls_sides.proofs.GatherLemmas.{below_at}
use Rattle.ls_decide.proofs.CostLemmas.{more_pass, index_at}
use Rattle.ls_decide.proofs.cost.cost_with_entries.Goals as goal

pub distinct_of-requires-clause-first : goal.distinct_of-requires-clause-first
distinct_of-requires-clause-first c = below_at _ _ _ c.requires.elements c.loop-element-test.true

pub returns-in_default : goal.returns-in_default
returns-in_default c =
    let h = subst (TellsCost (c.args.budget - c.loop-element.n) (sum (specifiers_at c.args.table.now c.as_slice.result.now))) c.in_default.is c.in_ok-more.ensures in
    let e = ap (specifiers_at c.args.table.now) c.as_slice.ensures ∙ c.in_ok-list.ensures.are in
    more_pass (λ e. sum (distinct (e ∷ specifiers_at c.args.table.now c.args.entries.now))) c.args.table.now c.args.elements.now c.loop-element.element-index
    (slice_index_or c.args.elements.now c.loop-element.element-index 0) c.loop-element.n c.args.budget c.loop-element-test.true (index_at c.args.elements.now c.loop-element.element-index c.loop-element-test.true)
    c.loop-element.invariant.0 c.loop-element.invariant.1 (subst (λ l. c.args.budget - c.loop-element.n < sum l) e h)
