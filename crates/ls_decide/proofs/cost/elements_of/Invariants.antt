use Rattle.std.proofs.Common.{take, []}
use Rattle.ls_lists.specs.Costs.{elements_in}
use Rattle.ls_sides.specs.Gathering.{Gathers}
use Rattle.ls_sides.proofs.GatherLemmas.{wants}
use Rattle.ls_decide.proofs.cost.elements_of.Given as goal

abbrev pub invariant-loop-id : goal.invariant-loop-id
invariant-loop-id l = Gathers l.table [] l.out (wants elements_in l.table (take l.id-index l.list))
