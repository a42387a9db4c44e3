use Rattle.std.proofs.Common.{take, ◌≡◌, filter, length, ◌==◌}
use Rattle.std.specs.List.{flat_map, sum_by}
use Rattle.ls_lists.specs.Candidates.{pattern_of, shapes_of_rank}
use Rattle.ls_intern.specs.Places.{specifiers_at}
use Rattle.ls_decide.specs.steps.Cut.{cut}
use Rattle.ls_decide.proofs.shapes.shapes.Given as goal

abbrev pub invariant-loop-rank : goal.invariant-loop-rank
invariant-loop-rank l =
    l.n ≡ cut (sum_by (λ rank. shapes_of_rank rank (filter (λ p. length p == rank) (flat_map pattern_of (specifiers_at l.table l.atoms)))) (take l.rank-index l.rank-items))
