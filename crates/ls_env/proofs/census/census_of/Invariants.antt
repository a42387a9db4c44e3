use Rattle.std.proofs.Common.{map, take}
use Rattle.ls_env.specs.steps.Gathered.{lent_definition, IsCensus}
use Rattle.ls_env.proofs.census.census_of.Given as goal

abbrev pub invariant-loop-definition : goal.invariant-loop-definition
invariant-loop-definition l = IsCensus (map lent_definition (take l.definition-index l.definitions)) l.census
