use Rattle.std.proofs.Common.{arith, ap, sym, ◌∙◌, [], fold}
use Rattle.ls_spec.specs.Atoms.{leaves}
use Rattle.ls_spec.specs.Distinct.{with_new}
use Rattle.ls_intern.specs.Places.{specifiers_at}
use Rattle.ls_sides.proofs.GatherLemmas.{below_at, gathers_whole}
use Rattle.ls_sides.proofs.NodeLemmas.{leaves_each}
use Rattle.ls_sides.proofs.sides.atoms_of.Goals as goal

pub add_leaves-requires-clause-id : goal.add_leaves-requires-clause-id
add_leaves-requires-clause-id c = below_at _ _ _ c.requires c.loop-id-test.true

pub add_leaves-requires-clause-out : goal.add_leaves-requires-clause-out
add_leaves-requires-clause-out c = c.loop-id.invariant.below

pub returns-clause-are : goal.returns-clause-are
returns-clause-are c =
    (gathers_whole leaves c.args.table.now c.args.list.now c.loop-id.id-index _ _ (omega arith) c.loop-id.invariant).is
    ∙ ap (fold with_new []) (sym (leaves_each (specifiers_at c.args.table.now c.args.list.now)))
