use Rattle.std.proofs.Common.{◌≡◌, drop}
use Rattle.ls_spec.specs.Truth.{matches_places}
use Rattle.ls_spec.proofs.dims.are_places_matched.Given as goal

abbrev pub invariant-loop-place : goal.invariant-loop-place
invariant-loop-place l = matches_places (drop l.place-index l.places) l.rest ≡ matches_places l.places l.dims
