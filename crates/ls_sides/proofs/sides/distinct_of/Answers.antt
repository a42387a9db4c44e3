use Rattle.ls_sides.proofs.GatherLemmas.{below_at}
use Rattle.ls_sides.proofs.sides.distinct_of.Goals as goal

pub add-requires-in-loop-id-clause-id : goal.add-requires-in-loop-id-clause-id
add-requires-in-loop-id-clause-id c = below_at _ _ _ c.requires.others c.loop-id-test.true

pub add-requires-in-loop-id-clause-out : goal.add-requires-in-loop-id-clause-out
add-requires-in-loop-id-clause-out c = c.loop-id.invariant.below
