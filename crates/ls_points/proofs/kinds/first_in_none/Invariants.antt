use Rattle.std.proofs.Common.{◌≡◌, false, take}
use Rattle.std.specs.List.{AllByRecursion}
use Rattle.ls_points.specs.steps.Kinds.{is_in_none}
use Rattle.ls_points.proofs.kinds.first_in_none.Given as goal

abbrev pub invariant-loop-kind : goal.invariant-loop-kind
invariant-loop-kind l = AllByRecursion (λ k. is_in_none k l.atoms ≡ false) (take l.kind-index l.kinds)
