use Rattle.std.proofs.Common.{arith, sym, subst}
use Rattle.ls_intern.specs.Places.{specifiers_at, AllBelow}
use Rattle.ls_sides.proofs.GatherLemmas.{below_at, sides_gathered}
use Rattle.ls_sides.proofs.sides.sides_of.Goals as goal

pub add_sides-requires-clause-id : goal.add_sides-requires-clause-id
add_sides-requires-clause-id c = below_at _ _ _ (subst (AllBelow _) (sym c.as_slice-id-items.ensures) c.in_ok-atoms.ensures.below) c.loop-id-test.true

pub returns : goal.returns
returns c = sides_gathered c.args.table.now (specifiers_at c.args.table.now c.args.list.now) _ _ _ _ c.loop-id.id-index c.as_slice-id-items.ensures (omega arith) c.in_ok-atoms.ensures.below c.in_ok-atoms.ensures.are c.loop-id.invariant.0 c.loop-id.invariant.1
