use Rattle.std.proofs.Common.{ℕ, zero, suc, ◌≡◌, sym, ◌∙◌, refl, ◌<◌, false, List, [], ◌∷◌, Option, length, drop, arith}
use Rattle.ls_spec.specs.Truth.{matches_places}
use Rattle.ls_spec.proofs.dims.are_places_matched.Goals as goal

-- places that have no dimension left are not matched
out_of_dimensions : (ps : List (Option ℕ)) (i : ℕ) (ns : List ℕ) → i < length ps → length ns < 1 → matches_places (drop i ps) ns ≡ false
out_of_dimensions [] i ns within short = absurd (omega (arith, within))
out_of_dimensions (p ∷ ps) i (n ∷ ns) within short = absurd (omega (arith, short))
out_of_dimensions (p ∷ ps) zero [] within short = refl
out_of_dimensions (p ∷ ps) (suc i) [] within short = out_of_dimensions ps i [] (omega (arith, within)) short

pub returns-in_default : goal.returns-in_default
returns-in_default c =
    sym (out_of_dimensions c.args.places.now c.loop-place.place-index c.loop-place.rest.now c.loop-place-test.true c.in_default.len_below) ∙ c.loop-place.invariant
