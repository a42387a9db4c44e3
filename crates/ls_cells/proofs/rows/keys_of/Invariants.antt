use Rattle.std.proofs.Common.{◌≡◌, take}
use Rattle.ls_cells.specs.Rows.{signs_of}
use Rattle.ls_cells.proofs.rows.keys_of.Given as goal

abbrev pub invariant-loop-row : goal.invariant-loop-row
invariant-loop-row l = l.keys.keys ≡ signs_of (take l.row-index l.rows)
