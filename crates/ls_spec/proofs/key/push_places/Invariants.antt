use Rattle.std.proofs.Common.{◌≡◌, ◌++◌, drop}
use Rattle.ls_spec.specs.Keys.{places_key}
use Rattle.ls_spec.proofs.key.push_places.Given as goal

abbrev pub invariant-loop-place : goal.invariant-loop-place
invariant-loop-place l = l.out.items ++ places_key (drop l.place-index l.places) ≡ l.initial.out.items ++ places_key l.places
