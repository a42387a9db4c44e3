use Rattle.ls_sides.proofs.GatherLemmas.{below_at}
use Rattle.ls_decide.proofs.candidates.count_predicates.Goals as goal

pub predicate_at-requires : goal.predicate_at-requires
predicate_at-requires c = below_at _ _ _ c.requires c.loop-id-test.true
