-- The parts of a body, one at a time.
use Rattle.std.proofs.Common.{◌≡◌, ℕ, ◌+◌, ◌<◌, List, length, get_or, drop, map, true, false, refl, ap, sym, ◌∙◌, add-one, drop-cons}
use Rattle.std.specs.Prelude.{◌&&◌}
use Rattle.ls_reader.specs.declared.datum.Datum.{Datum}
use Rattle.ls_deftype.specs.declared.mark.Place.{Place}
use Rattle.ls_deftype.specs.Marks.{Rules, part, all_fit}

fit_drop : (r : Rules) (at : Place) (ds : List Datum) (i : ℕ) (d : Datum) → i < length ds → d ≡ get_or ds i d
    → all_fit at (map (part r) (drop i ds)) ≡ ((part r d).fits at && all_fit at (map (part r) (drop (i + 1) ds)))
fit_drop r at ds i d h is =
    let front : all_fit at (map (part r) (drop i ds)) ≡ ((part r (get_or ds i d)).fits at && all_fit at (map (part r) (drop (i + 1) ds))) = rw (add-one, drop-cons ds i d h) refl in
    front ∙ ap (λ x. (part r x).fits at && all_fit at (map (part r) (drop (i + 1) ds))) (sym is)

-- where one of the data may not stand there, not all may
pub fit_stops : (r : Rules) (at : Place) (ds : List Datum) (i : ℕ) (d : Datum) → i < length ds → d ≡ get_or ds i d → (part r d).fits at ≡ false → all_fit at (map (part r) (drop i ds)) ≡ false
fit_stops r at ds i d h is e = fit_drop r at ds i d h is ∙ ap (λ b. b && all_fit at (map (part r) (drop (i + 1) ds))) e

pub fit_goes_on : (r : Rules) (at : Place) (ds : List Datum) (i : ℕ) (d : Datum) → i < length ds → d ≡ get_or ds i d → (part r d).fits at ≡ true → all_fit at (map (part r) (drop i ds)) ≡ all_fit at (map (part r) (drop (i + 1) ds))
fit_goes_on r at ds i d h is e = fit_drop r at ds i d h is ∙ ap (λ b. b && all_fit at (map (part r) (drop (i + 1) ds))) e
