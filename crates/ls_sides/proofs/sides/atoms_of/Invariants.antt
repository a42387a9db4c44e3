use Rattle.std.proofs.Common.{take, []}
use Rattle.ls_spec.specs.Atoms.{leaves}
use Rattle.ls_sides.specs.Gathering.{Gathers}
use Rattle.ls_sides.proofs.GatherLemmas.{wants}
use Rattle.ls_sides.proofs.sides.atoms_of.Given as goal

abbrev pub invariant-loop-id : goal.invariant-loop-id
invariant-loop-id l = Gathers l.table [] l.out (wants leaves l.table (take l.id-index l.list))
