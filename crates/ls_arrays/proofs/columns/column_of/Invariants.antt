use Rattle.std.proofs.Common.{◌≡◌, drop, []}
use Rattle.ls_arrays.specs.steps.Representatives as rep
use Rattle.ls_arrays.proofs.columns.column_of.Given as goal

abbrev pub invariant-loop-atom : goal.invariant-loop-atom
invariant-loop-atom l = rep.column_past l.out l.rank l.place (rep.places_of (drop l.atom-index l.atoms)) ≡ rep.column_past [] l.rank l.place (rep.places_of l.atoms)
