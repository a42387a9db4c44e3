use Rattle.std.proofs.Common.{subst}
use Rattle.ls_cells.specs.Rows.{AreDifferent}
use Rattle.ls_cells.proofs.rows.Rows.len.Goals as goal

pub returns-clause-different : goal.returns-clause-different
returns-clause-different c = subst AreDifferent c.self.view_is c.self.invariant.different
