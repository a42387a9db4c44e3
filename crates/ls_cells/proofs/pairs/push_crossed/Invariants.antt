use Rattle.std.proofs.Common.{ℕ, ◌≡◌, ◌≤◌, ◌+◌, ◌*◌, take, length}
use Rattle.std.specs.List.{AllByRecursion}
use Rattle.ls_cells.specs.Rows.{AreLong}
use Rattle.ls_cells.specs.steps.Pairing.{Crosses}
use Rattle.ls_cells.proofs.pairs.push_crossed.Given as goal

abbrev pub invariant-loop-car : goal.invariant-loop-car
invariant-loop-car g l = record {
  rises : l.fn.steps ≤ l.steps;
  most : l.steps ≤ l.fn.steps + l.car-index * length l.cdrs;
  fewer : length l.rows + l.fn.steps ≤ length l.fn.rows + l.steps;
  long : (n : ℕ) → AllByRecursion (λ car. length car.signs ≡ n) l.cars → AreLong n l.fn.rows → AreLong n l.rows;
  crosses : Crosses (take l.car-index l.cars) l.cdrs l.fn.rows l.rows;
}
