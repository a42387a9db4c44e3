use Rattle.std.proofs.Common.{◌≡◌, drop}
use Rattle.ls_cells.specs.steps.Idle.{is_idle}
use Rattle.ls_cells.proofs.idle.is_idle.Given as goal

abbrev pub invariant-loop-atom : goal.invariant-loop-atom
invariant-loop-atom l = is_idle l.class (drop l.atom-index l.atoms) ≡ is_idle l.class l.atoms
