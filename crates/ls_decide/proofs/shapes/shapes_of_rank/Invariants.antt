use Rattle.std.proofs.Common.{◌≡◌, ◌+◌, length}
use Rattle.std.specs.List.{flat_map}
use Rattle.ls_lists.specs.Candidates.{pattern_of, number_at, distinct_numbers, product_below}
use Rattle.ls_intern.specs.Places.{specifiers_at}
use Rattle.ls_decide.specs.steps.Cut.{cut}
use Rattle.ls_decide.proofs.shapes.shapes_of_rank.Given as goal

abbrev pub invariant-loop-place : goal.invariant-loop-place
invariant-loop-place l =
    l.n ≡ cut (product_below l.place (λ place. 1 + length (distinct_numbers (flat_map (number_at place) (flat_map pattern_of (specifiers_at l.table l.atoms))))))
