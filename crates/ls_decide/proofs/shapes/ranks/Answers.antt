use Rattle.ls_sides.proofs.GatherLemmas.{below_at}
use Rattle.ls_decide.proofs.shapes.ranks.Goals as goal

pub add_rank-requires : goal.add_rank-requires
add_rank-requires c = below_at _ _ _ c.requires c.loop-id-test.true
