use Rattle.std.proofs.Common.{◌≡◌, map, take}
use Rattle.ls_deftype.specs.Templates.{definition_of}
use Rattle.ls_env.specs.Statuses.{graph_of}
use Rattle.ls_env.proofs.mention.graph_of.Given as goal

abbrev pub invariant-loop-template : goal.invariant-loop-template
invariant-loop-template l = l.graph ≡ graph_of l.finder.names.now.keys l.finder.statuses.now (map definition_of (take l.template-index l.templates))
