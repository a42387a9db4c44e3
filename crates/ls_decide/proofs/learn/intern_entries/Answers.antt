use Rattle.std.proofs.Common.{◌∙◌}
use Rattle.ls_cells.specs.Kept.{specifiers_in}
use Rattle.ls_decide.proofs.CostLemmas.{entry_added}
use Rattle.ls_decide.proofs.learn.intern_entries.Goals as goal

pub loop-index-preserved : goal.loop-index-preserved
loop-index-preserved c =
    let rest = entry_added (specifiers_in c.args.store.now) (specifiers_in c.loop-index.store) (specifiers_in c.intern_entry.new.store) c.loop-index.ids.items _ c.loop-index.index c.in_ok-id.id
    c.loop-index.invariant.1.1.1.0 c.in_ok-id.ensures.grows c.loop-index.invariant.1.1.1.1.0 c.loop-index.invariant.1.1.1.1.1 c.in_ok-id.ensures.within c.in_ok-id.ensures.is c.loop-index-test.true c.in_ok-push.ensures.items in
    (c.in_ok-id.ensures.structures ∙ c.loop-index.invariant.0, (c.in_ok-id.ensures.codes ∙ c.loop-index.invariant.1.0, (c.in_ok-id.ensures.kept ∙ c.loop-index.invariant.1.1.0, rest)))
