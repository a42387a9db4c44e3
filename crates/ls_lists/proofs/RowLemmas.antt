-- The rows of a list, without the bound of the recursion.
use Rattle.std.proofs.Common.{ℕ, zero, suc, ◌≡◌, ◌≤◌, ◌<◌, ◌*◌, refl, ◌∙◌, ap, List, [], ◌∷◌, true, false, arith}
use Rattle.ls_spec.specs.Specifier.{Specifier}
use Rattle.ls_lists.specs.Sides.{cars_of, cdrs_of, height}
use Rattle.ls_lists.specs.Walks.{rows_with, rows_within, rows, part_with, part, is_none}
use Rattle.ls_lists.proofs.FallLemmas.{cars_fall, cdrs_fall, height_some}

-- any bound on the height serves
rows_same : (m n : ℕ) (list : List Specifier) → height list ≤ m → height list ≤ n → rows_within m list ≡ rows_within n list
unfolding rows_within
rows_same zero zero list h k = refl
rows_same m n [] h k = refl
rows_same zero (suc n) (s ∷ list) h k = absurd (omega arith)
rows_same (suc m) zero (s ∷ list) h k = absurd (omega arith)
rows_same (suc m) (suc n) (s ∷ list) h k =
    let e = rows_same m n (cars_of (s ∷ list)) (cars_fall (s ∷ list) m h) (cars_fall (s ∷ list) n k) in
    let f = rows_same m n (cdrs_of (s ∷ list)) (cdrs_fall (s ∷ list) m h) (cdrs_fall (s ∷ list) n k) in
    ap (λ x. rows_with (x * rows_within m (cdrs_of (s ∷ list))) (s ∷ list)) e ∙ ap (λ x. rows_with (rows_within n (cars_of (s ∷ list)) * x) (s ∷ list)) f

-- the empty list has one row, which says nothing
pub rows_none : (list : List Specifier) → is_none list ≡ true → rows list ≡ 1
unfolding rows rows_within
rows_none [] h = refl
rows_none (s ∷ list) h = cc

rows_suc : (n : ℕ) (list : List Specifier) → is_none list ≡ false → height list ≤ suc n
    → rows_within (suc n) list ≡ rows_with (rows (cars_of list) * rows (cdrs_of list)) list
unfolding rows rows_within
rows_suc n [] e h = cc
rows_suc n (s ∷ list) e h =
    let f = rows_same n (height (cars_of (s ∷ list))) (cars_of (s ∷ list)) (cars_fall (s ∷ list) n h) (omega arith) in
    let g = rows_same n (height (cdrs_of (s ∷ list))) (cdrs_of (s ∷ list)) (cdrs_fall (s ∷ list) n h) (omega arith) in
    ap (λ x. rows_with (x * rows_within n (cdrs_of (s ∷ list))) (s ∷ list)) f ∙ ap (λ x. rows_with (rows (cars_of (s ∷ list)) * x) (s ∷ list)) g

-- the rows of a list from those of its cars and its cdrs
pub rows_some : (list : List Specifier) → is_none list ≡ false → rows list ≡ rows_with (rows (cars_of list) * rows (cdrs_of list)) list
unfolding rows
rows_some list e = at (height list) (height_some list e) (omega arith)
  where
    at : (n : ℕ) → 0 < n → height list ≤ n → rows_within n list ≡ rows_with (rows (cars_of list) * rows (cdrs_of list)) list
    at zero h k = absurd (omega arith)
    at (suc n) h k = rows_suc n list e k

-- and what it adds
pub part_is : (list : List Specifier) → part list ≡ part_with (rows (cars_of list) * rows (cdrs_of list)) list
unfolding part
part_is list = refl
