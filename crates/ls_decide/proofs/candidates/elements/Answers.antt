use Rattle.std.proofs.Common.{arith}
use Rattle.ls_lists.specs.Candidates.{element_of}
use Rattle.ls_sides.proofs.GatherLemmas.{below_at, gathers_whole}
use Rattle.ls_decide.proofs.candidates.elements.Goals as goal

pub add_element-requires-clause-id : goal.add_element-requires-clause-id
add_element-requires-clause-id c = below_at _ _ _ c.requires c.loop-id-test.true

pub add_element-requires-clause-out : goal.add_element-requires-clause-out
add_element-requires-clause-out c = c.loop-id.invariant.below

pub returns : goal.returns
returns c = (gathers_whole element_of c.args.table.now c.args.atoms.now c.loop-id.id-index _ _ (omega arith) c.loop-id.invariant).is
