use Rattle.std.proofs.Common.{length}
use Rattle.ls_cells.specs.steps.Turning.{HasTurned}
use Rattle.ls_cells.proofs.transpose.raise_all.Given as goal

abbrev pub invariant-loop-k : goal.invariant-loop-k
invariant-loop-k l = HasTurned l.lists (length l.fn.columns.items) l.k l.columns.items
