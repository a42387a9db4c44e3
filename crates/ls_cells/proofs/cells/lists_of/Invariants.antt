use Rattle.std.proofs.Common.{◌≡◌, take}
use Rattle.ls_cells.specs.Rows.{signs_of}
use Rattle.ls_cells.proofs.cells.lists_of.Given as goal

abbrev pub invariant-loop-i : goal.invariant-loop-i
invariant-loop-i l = l.lists ≡ signs_of (take l.i l.rows)
