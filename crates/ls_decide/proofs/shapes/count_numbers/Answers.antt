use Rattle.ls_sides.proofs.GatherLemmas.{below_at}
use Rattle.ls_decide.proofs.shapes.count_numbers.Goals as goal

pub add_number-requires : goal.add_number-requires
add_number-requires c = below_at _ _ _ c.requires c.loop-id-test.true
