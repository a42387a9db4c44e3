use Rattle.std.proofs.Common.{◌≡◌, true}
use Rattle.std.specs.List.{list_all, range_with_len}
use Rattle.ls_env.specs.steps.Marking.{is_held}
use Rattle.ls_env.proofs.marking.are_parts.Given as goal

abbrev pub invariant-loop-at : goal.invariant-loop-at
invariant-loop-at l = list_all (is_held l.graph l.parts) (range_with_len 0 l.at) ≡ true
