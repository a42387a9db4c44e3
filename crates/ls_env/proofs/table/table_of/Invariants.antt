use Rattle.std.proofs.Common.{map, take}
use Rattle.ls_env.specs.steps.Gathered.{shown, standing_of, IsTableOf}
use Rattle.ls_env.proofs.table.table_of.Given as goal

abbrev pub invariant-loop-one : goal.invariant-loop-one
invariant-loop-one l = IsTableOf (map standing_of (map shown (take l.one-index l.defined))) l.table
