use Rattle.std.proofs.Common.{take, [], ◌∷◌}
use Rattle.ls_intern.specs.Places.{at, specifiers_at}
use Rattle.ls_sides.specs.Gathering.{Gathers}
use Rattle.ls_sides.proofs.sides.distinct_of.Given as goal

abbrev pub invariant-loop-id : goal.invariant-loop-id
invariant-loop-id l = Gathers l.table [] l.out (at l.table l.first ∷ specifiers_at l.table (take l.id-index l.others))
