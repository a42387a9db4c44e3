use Rattle.std.proofs.Common.{take, []}
use Rattle.ls_lists.specs.Candidates.{element_of}
use Rattle.ls_sides.specs.Gathering.{Gathers}
use Rattle.ls_sides.proofs.GatherLemmas.{wants}
use Rattle.ls_decide.proofs.candidates.elements.Given as goal

abbrev pub invariant-loop-id : goal.invariant-loop-id
invariant-loop-id l = Gathers l.table [] l.out (wants element_of l.table (take l.id-index l.atoms))
