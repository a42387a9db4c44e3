use Rattle.std.proofs.Common.{◌∙◌, length, []}
use Rattle.std.proofs.lemmas.List.{get_or_default}
use Rattle.ls_cells.proofs.RaiseLemmas.{turned_more, turned_long}
use Rattle.ls_cells.proofs.transpose.raise_all.Goals as goal

pub raise_by-requires : goal.raise_by-requires
raise_by-requires c = record { long = turned_long c.args.lists.now (length c.args.columns.now.items) c.loop-k.k c.loop-k.columns.items c.loop-k.invariant c.loop-k-test.true }

pub loop-k-preserved : goal.loop-k-preserved
loop-k-preserved c =
    turned_more c.args.lists.now (length c.args.columns.now.items) c.loop-k.k c.loop-k.columns.items c.raise_by.new.columns.items c.index-lists-k.result
    (c.index-lists-k.is ∙ get_or_default c.args.lists.now c.loop-k.k c.index-lists-k.result [] c.loop-k-test.true) c.loop-k.invariant c.raise_by.ensures
