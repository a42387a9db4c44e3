use Rattle.std.proofs.Common.{◌≡◌, drop, []}
use Rattle.ls_arrays.specs.steps.Representatives as rep
use Rattle.ls_arrays.proofs.columns.ranks.Given as goal

abbrev pub invariant-loop-atom : goal.invariant-loop-atom
invariant-loop-atom l = rep.ranks_past l.out (rep.places_of (drop l.atom-index l.atoms)) ≡ rep.ranks_past [] (rep.places_of l.atoms)
