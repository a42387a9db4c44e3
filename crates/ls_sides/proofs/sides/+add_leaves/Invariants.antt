use Rattle.std.proofs.Common.{take}
use Rattle.ls_spec.specs.Atoms.{leaves}
use Rattle.ls_sides.specs.Gathering.{Gathers}
use Rattle.ls_sides.proofs.GatherLemmas.{wants}
use Rattle.ls_sides.proofs.sides.+add_leaves.Given as goal

abbrev pub decreases-add_leaves : goal.decreases-add_leaves
decreases-add_leaves l = l.id

abbrev pub invariant-loop-part : goal.invariant-loop-part
invariant-loop-part l = Gathers l.table l.fn.out l.out (wants leaves l.table (take l.part-index l.parts))
