use Rattle.std.proofs.Common.{◌≡◌, map}
use Rattle.std.specs.List.{range_with_len}
use Rattle.ls_env.specs.Reaching.{comes_back}
use Rattle.ls_env.proofs.marking.marks_by_walks.Given as goal

abbrev pub invariant-loop-at : goal.invariant-loop-at
invariant-loop-at l = l.marks ≡ map (comes_back l.graph) (range_with_len 0 l.at)
