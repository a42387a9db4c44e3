use Rattle.ls_sides.proofs.GatherLemmas.{below_at}
use Rattle.ls_decide.proofs.shapes.of_rank.Goals as goal

pub add_of_rank-requires-clause-id : goal.add_of_rank-requires-clause-id
add_of_rank-requires-clause-id c = below_at _ _ _ c.requires c.loop-id-test.true
