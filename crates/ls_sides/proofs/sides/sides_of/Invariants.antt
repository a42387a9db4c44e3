use Rattle.std.proofs.Common.{take, []}
use Rattle.ls_lists.specs.Sides.{car_of, cdr_of}
use Rattle.ls_sides.specs.Gathering.{Gathers}
use Rattle.ls_sides.proofs.GatherLemmas.{wants}
use Rattle.ls_sides.proofs.sides.sides_of.Given as goal

abbrev pub invariant-loop-id : goal.invariant-loop-id
invariant-loop-id l =
    Gathers l.table [] l.cars (wants car_of l.table (take l.id-index l.id-items))
    × Gathers l.table [] l.cdrs (wants cdr_of l.table (take l.id-index l.id-items))
