use Rattle.std.proofs.Common.{◌&&◌, ◌≤◌, nat_lt}
use Rattle.std.specs.Prelude.{nat_le}
use Rattle.ls_cells.specs.Signs.{at}
use Rattle.ls_cells.specs.steps.Turning.{Raises}
use Rattle.ls_cells.proofs.transpose.raise_between.Given as goal

abbrev pub invariant-loop-i : goal.invariant-loop-i
invariant-loop-i l = record {
  least : l.fn.from ≤ l.i;
  most : l.i ≤ l.fn.to;
  raised : Raises (λ i. nat_le l.fn.from i && nat_lt i l.i && at l.list i) l.k l.fn.columns.items l.columns.items;
}
