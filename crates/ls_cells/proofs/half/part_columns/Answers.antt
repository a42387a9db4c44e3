use Rattle.std.proofs.Common.{length}
use Rattle.ls_intern.specs.Places.{specifiers_at}
use Rattle.ls_sides.proofs.GatherLemmas.{below_at}
use Rattle.ls_cells.proofs.HalfLemmas.{columns_more}
use Rattle.ls_cells.proofs.half.part_columns.Goals as goal

pub part_column-requires : goal.part_column-requires
part_column-requires c = below_at (length c.args.table.now) c.args.atoms.now c.loop-id.id-index c.requires c.loop-id-test.true

pub loop-id-preserved : goal.loop-id-preserved
loop-id-preserved c =
    columns_more c.args.side c.args.table.now (specifiers_at c.args.table.now c.args.cells.now.atoms) c.args.cells.now.rows c.args.atoms.now c.loop-id.id-index c.loop-id.columns c.push.new.self c.in_ok-column.column
    c.loop-id-test.true c.loop-id.invariant c.in_ok-column.ensures c.in_ok-push.ensures.ok
