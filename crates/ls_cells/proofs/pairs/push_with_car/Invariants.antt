use Rattle.std.proofs.Common.{◌≤◌, ◌+◌, [], ◌∷◌, take, length}
use Rattle.ls_cells.specs.Rows.{AreLong}
use Rattle.ls_cells.specs.steps.Pairing.{Crosses}
use Rattle.ls_cells.proofs.pairs.push_with_car.Given as goal

abbrev pub invariant-loop-cdr : goal.invariant-loop-cdr
invariant-loop-cdr g l = record {
  rises : l.fn.steps ≤ l.steps;
  most : l.steps ≤ l.fn.steps + l.cdr-index;
  fewer : length l.rows + l.fn.steps ≤ length l.fn.rows + l.steps;
  long : AreLong (length l.car.signs) l.fn.rows → AreLong (length l.car.signs) l.rows;
  crosses : Crosses (l.car ∷ []) (take l.cdr-index l.cdrs) l.fn.rows l.rows;
}
