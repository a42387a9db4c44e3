use Rattle.std.proofs.Common.{◌≡◌, ◌+◌, ◌*◌, map, take}
use Rattle.ls_spec.specs.Meaning.{specifier}
use Rattle.ls_intern.specs.Places.{specifiers_at}
use Rattle.ls_intern.proofs.TreeLemmas.{above}
use Rattle.ls_intern.proofs.table.Table.+tree.Given as goal

abbrev pub decreases-tree : goal.decreases-tree
decreases-tree l = 2 * l.id + 1

abbrev pub decreases-trees : goal.decreases-trees
decreases-trees l = 2 * above l.ids.now

abbrev pub invariant-trees-loop-id : goal.invariant-trees-loop-id
invariant-trees-loop-id l = map specifier l.specs ≡ specifiers_at l.self (take l.id-index l.ids)
