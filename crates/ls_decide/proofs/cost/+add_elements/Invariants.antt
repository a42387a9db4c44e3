use Rattle.std.proofs.Common.{take}
use Rattle.ls_lists.specs.Costs.{elements_in}
use Rattle.ls_sides.specs.Gathering.{Gathers}
use Rattle.ls_sides.proofs.GatherLemmas.{wants}
use Rattle.ls_decide.proofs.cost.+add_elements.Given as goal

abbrev pub decreases-add_elements : goal.decreases-add_elements
decreases-add_elements l = l.id

abbrev pub invariant-loop-part : goal.invariant-loop-part
invariant-loop-part l = Gathers l.table l.fn.out l.out (wants elements_in l.table (take l.part-index l.parts))
