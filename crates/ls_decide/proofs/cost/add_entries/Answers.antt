use Rattle.ls_decide.proofs.CostLemmas.{entry_added}
use Rattle.ls_decide.proofs.cost.add_entries.Goals as goal

pub loop-index-preserved : goal.loop-index-preserved
loop-index-preserved c =
    entry_added c.args.table.now c.loop-index.table c.add_entry.new.table c.loop-index.ids.items _ c.loop-index.index c.in_ok-id.id c.loop-index.invariant.0 c.in_ok-id.ensures.grows
    c.loop-index.invariant.1.0 c.loop-index.invariant.1.1 c.in_ok-id.ensures.within c.in_ok-id.ensures.is c.loop-index-test.true c.in_ok-push.ensures.items
