use Rattle.std.proofs.Common.{◌≡◌, ◌∷◌, take}
use Rattle.std.specs.List.{flat_map}
use Rattle.ls_spec.specs.Limits.{dimension_limit}
use Rattle.ls_arrays.specs.steps.Representatives as rep
use Rattle.ls_arrays.proofs.regions.all_dims.Given as goal

abbrev pub invariant-loop-rank : goal.invariant-loop-rank
invariant-loop-rank l = l.out ≡ rep.unnamed_dims l.each ∷ flat_map (λ r. rep.tuples dimension_limit (rep.columns r (rep.places_of l.atoms))) (take l.rank-index l.each)
