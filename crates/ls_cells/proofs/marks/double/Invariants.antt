use Rattle.std.proofs.Common.{ℕ, ◌≤◌, ◌+◌, length}
use Rattle.ls_cells.specs.Rows.{AreLong}
use Rattle.ls_cells.specs.steps.Marking.{Marks}
use Rattle.ls_cells.proofs.marks.double.Given as goal

abbrev pub invariant-loop-i : goal.invariant-loop-i
invariant-loop-i g l = record {
  rises : l.fn.steps ≤ l.steps;
  most : l.steps ≤ l.fn.steps + l.i;
  fewer : length l.rows + l.fn.steps ≤ length l.fn.rows + l.steps;
  long : (n : ℕ) → AreLong n l.fn.rows → AreLong n l.rows;
  marks : Marks l.place l.i l.fn.rows l.rows;
}
