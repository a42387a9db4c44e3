use Rattle.ls_cells.specs.Rows.{signs_of}
use Rattle.ls_cells.proofs.ThereLemmas.{has_at}
use Rattle.ls_cells.proofs.rows.keep_first.Goals as goal

pub returns-in-Some-clause-fresh : goal.returns-in-Some-clause-fresh
returns-in-Some-clause-fresh c = has_at (signs_of c.args.rows.now) _ c.args.signs.now c.in-Some.ensures
