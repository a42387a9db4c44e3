use Rattle.std.proofs.Common.{take}
use Rattle.ls_intern.specs.Places.{specifiers_at}
use Rattle.ls_cells.specs.steps.Halves.{AreHalves}
use Rattle.ls_cells.proofs.half.halves.Given as goal

abbrev pub invariant-loop-i : goal.invariant-loop-i
invariant-loop-i l = AreHalves l.fn.side (specifiers_at l.fn.table l.cells.atoms) (specifiers_at l.fn.table l.fn.atoms) (take l.i l.cells.rows) l.halves.items
