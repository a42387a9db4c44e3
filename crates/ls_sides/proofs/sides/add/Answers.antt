use Rattle.std.proofs.lemmas.Result.{on_ok_weaker}
use Rattle.ls_sides.proofs.GatherLemmas.{gathers_added}
use Rattle.ls_sides.proofs.sides.add.Goals as goal

pub returns : goal.returns
returns c = on_ok_weaker _ (gathers_added c.args.table.now c.len-distinct.ensures.distinct c.args.out.now _ c.args.id c.requires.id c.requires.out) c.push.ensures
