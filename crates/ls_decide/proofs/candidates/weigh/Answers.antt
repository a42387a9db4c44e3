use Rattle.ls_sides.proofs.GatherLemmas.{below_at}
use Rattle.ls_decide.proofs.candidates.weigh.Goals as goal

pub weight_at-requires : goal.weight_at-requires
weight_at-requires c = below_at _ _ _ c.requires c.loop-id-test.true
