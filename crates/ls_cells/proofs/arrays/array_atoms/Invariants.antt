use Rattle.std.proofs.Common.{take}
use Rattle.ls_object.specs.Universe.{Structures}
use Rattle.ls_intern.specs.Places.{specifiers_at}
use Rattle.ls_cells.specs.Codes.{AreCodes}
use Rattle.ls_cells.specs.steps.Asking.{AreAskedBy}
use Rattle.ls_cells.proofs.arrays.array_atoms.Given as goal

abbrev pub invariant-loop-atom : goal.invariant-loop-atom
invariant-loop-atom l = (structures : Structures) → AreCodes structures l.table l.codes → AreAskedBy structures (specifiers_at l.table (take l.atom-index l.atoms)) l.asked
