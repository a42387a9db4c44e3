use Rattle.ls_cells.proofs.FindLemmas.{key_more}
use Rattle.ls_cells.proofs.rows.keys_of.Goals as goal

pub loop-row-preserved : goal.loop-row-preserved
loop-row-preserved c =
    key_more c.args.rows.now c.loop-row.row-index c.row-item.result c.loop-row.keys.keys c.insert.new.self.keys c.in_ok-key.key c.requires c.loop-row-test.true c.row-item.is c.in_ok-key.ensures
    c.loop-row.invariant c.in_ok-insert.ensures.keys
