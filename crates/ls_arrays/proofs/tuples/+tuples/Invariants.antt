use Rattle.std.proofs.Common.{length}
use Rattle.ls_arrays.proofs.tuples.+tuples.Given as goal

abbrev pub decreases-tuples : goal.decreases-tuples
decreases-tuples l = length l.columns.now
