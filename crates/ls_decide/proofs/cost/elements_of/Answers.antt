use Rattle.std.proofs.Common.{arith}
use Rattle.ls_lists.specs.Costs.{elements_in}
use Rattle.ls_sides.proofs.GatherLemmas.{below_at, gathers_whole}
use Rattle.ls_decide.proofs.cost.elements_of.Goals as goal

pub add_elements-requires-clause-id : goal.add_elements-requires-clause-id
add_elements-requires-clause-id c = below_at _ _ _ c.requires c.loop-id-test.true

pub add_elements-requires-clause-out : goal.add_elements-requires-clause-out
add_elements-requires-clause-out c = c.loop-id.invariant.below

pub returns-clause-are : goal.returns-clause-are
returns-clause-are c = (gathers_whole elements_in c.args.table.now c.args.list.now c.loop-id.id-index _ _ (omega arith) c.loop-id.invariant).is
