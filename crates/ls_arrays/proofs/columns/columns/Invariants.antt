use Rattle.std.proofs.Common.{◌≡◌, ◌++◌, ◌-◌}
use Rattle.ls_arrays.specs.steps.Representatives as rep
use Rattle.ls_arrays.proofs.columns.columns.Given as goal

abbrev pub invariant-loop-place : goal.invariant-loop-place
invariant-loop-place l = l.out ++ rep.columns_from l.rank l.place (l.rank - l.place) (rep.places_of l.atoms) ≡ rep.columns l.rank (rep.places_of l.atoms)
