use Rattle.std.proofs.Common.{◌≡◌, [], map, drop}
use Rattle.ls_env.specs.steps.Gathered.{shown}
use Rattle.ls_env.specs.steps.Joining.{joined}
use Rattle.ls_env.proofs.structure.tree_of.Given as goal

-- with what is left, the tree is the whole
abbrev pub invariant-loop-one : goal.invariant-loop-one
invariant-loop-one l = joined l.tree (map shown (drop l.one-index l.defined)) ≡ joined [] (map shown l.defined)
