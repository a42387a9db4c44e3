use Rattle.std.proofs.Common.{take}
use Rattle.std.specs.List.{AllByRecursion}
use Rattle.ls_spec.specs.Fits.{IsSmallPlace}
use Rattle.ls_spec.proofs.fits.are_small_places.Given as goal

abbrev pub invariant-loop-place : goal.invariant-loop-place
invariant-loop-place l = AllByRecursion IsSmallPlace (take l.place-index l.places)
