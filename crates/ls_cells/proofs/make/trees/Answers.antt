use Rattle.ls_intern.proofs.TreeLemmas.{below_at}
use Rattle.ls_cells.proofs.make.trees.Goals as goal

pub tree-requires : goal.tree-requires
tree-requires c = below_at _ _ _ _ c.requires c.loop-id-test.true
