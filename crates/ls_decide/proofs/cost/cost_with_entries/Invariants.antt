use Rattle.std.proofs.Common.{take, ◌≡◌, ◌≤◌, ◌∷◌}
use Rattle.std.specs.List.{sum_by}
use Rattle.ls_spec.specs.Distinct.{distinct}
use Rattle.ls_lists.specs.Walks.{sum}
use Rattle.ls_intern.specs.Places.{specifiers_at}
use Rattle.ls_decide.proofs.cost.cost_with_entries.Given as goal

abbrev pub invariant-loop-element : goal.invariant-loop-element
invariant-loop-element l =
    (l.n ≡ sum_by (λ e. sum (distinct (e ∷ specifiers_at l.table l.entries))) (specifiers_at l.table (take l.element-index l.elements)))
    × (l.n ≤ l.budget)
