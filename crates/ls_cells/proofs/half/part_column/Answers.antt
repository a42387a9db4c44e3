use Rattle.std.proofs.lemmas.Result.{IfOk-weaker}
use Rattle.ls_intern.specs.Places.{at, specifiers_at}
use Rattle.ls_cells.specs.steps.Halves.{part_of}
use Rattle.ls_cells.proofs.HalfLemmas.{column_of_none}
use Rattle.ls_cells.proofs.half.part_column.Goals as goal

pub returns-in-None : goal.returns-in-None
returns-in-None c =
    IfOk-weaker c.interval.result _ _ (λ column. column_of_none (specifiers_at c.args.table.now c.args.cells.now.atoms) c.args.cells.now.rows (part_of c.args.side (at c.args.table.now c.args.id)) c.len.result column c.in-None.ensures c.len.ensures.len) c.interval.ensures
