use Rattle.std.proofs.Common.{◌&&◌, ◌*◌, nat_lt}
use Rattle.ls_cells.specs.Signs.{at}
use Rattle.ls_cells.specs.steps.Turning.{Raises}
use Rattle.ls_cells.proofs.transpose.raise_first.Given as goal

abbrev pub invariant-loop-block : goal.invariant-loop-block
invariant-loop-block l = Raises (λ i. nat_lt i (l.block * 64) && (nat_lt i l.fn.count && at l.list i)) l.k l.fn.columns.items l.columns.items
