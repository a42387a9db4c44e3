use Rattle.std.proofs.Common.{take}
use Rattle.ls_intern.specs.Places.{specifiers_at}
use Rattle.ls_cells.specs.steps.Halves.{ArePartColumns}
use Rattle.ls_cells.proofs.half.part_columns.Given as goal

abbrev pub invariant-loop-id : goal.invariant-loop-id
invariant-loop-id l = ArePartColumns l.side (specifiers_at l.table l.cells.atoms) l.cells.rows (specifiers_at l.table (take l.id-index l.atoms)) l.columns
