use Rattle.std.proofs.Common.{◌≡◌, drop}
use Rattle.ls_points.specs.steps.Kinds.{is_in_none}
use Rattle.ls_points.proofs.kinds.is_in_none.Given as goal

abbrev pub invariant-loop-atom : goal.invariant-loop-atom
invariant-loop-atom l = is_in_none l.kind (drop l.atom-index l.atoms) ≡ is_in_none l.kind l.atoms
