-- How many rows there can be: no more than all truth values, and than candidates and pairs.
use Rattle.std.proofs.Common.{ℕ, zero, suc, min, ◌≡◌, ◌+◌, ◌-◌, ◌*◌, ◌^◌, ◌≤◌, ◌<◌, refl, sym, ap, ◌∙◌, subst, arith, Bool, true, false, List, [], ◌∷◌, length, get_or, AllPairs}
use Rattle.std.specs.Bool.{beq}
use Rattle.std.specs.List.{AllByRecursion, IsDistinct}
use Rattle.std.specs.Cmp.{booleans_Decides}
use Rattle.std.specs.Cmp.Lexicographic.{pointwise, pointwise_decides}
use Rattle.std.proofs.Math.Nat.{pow-suc}
use Rattle.std.proofs.lemmas.Nat.{pow-add}
use Rattle.std.proofs.lemmas.List.{length-map}
use Rattle.std.proofs.lemmas.List.Elements.{recursion_from_All, All-map}
use Rattle.std.proofs.lemmas.List.Sums.{count_by-le-length}
use Rattle.ls_spec.specs.Specifier.{Specifier}
use Rattle.ls_spec.specs.Atoms.{atoms_of}
use Rattle.ls_lists.specs.Candidates.{is_predicate, candidates, predicates}
use Rattle.ls_lists.specs.Sides.{cars_of, cdrs_of}
use Rattle.ls_lists.specs.Walks.{rows_with, rows, is_none}
use Rattle.ls_lists.proofs.RowLemmas.{rows_some}
use Rattle.ls_cells.specs.declared.rows.Row.{Row}
use Rattle.ls_cells.specs.Rows.{signs_of, AreLong, AreDifferent}

-- keys that are distinct, as pairs
different_from : (x : List Bool) (xs : List (List Bool)) (j : ℕ) (d : List Bool) → AllByRecursion (λ y. pointwise beq x y ≡ false) xs → j < length xs → x ≡ get_or xs j d → ⊥
different_from x [] j d h l e = omega arith
different_from x (y ∷ xs) zero d h l e = let t = (pointwise_decides booleans_Decides x y).1 e in let f = h.0 in cc
different_from x (y ∷ xs) (suc j) d h l e = different_from x xs j d h.1 (omega arith) e

pub different_keys : (keys : List (List Bool)) → IsDistinct (pointwise beq) keys → AllPairs (λ x y. ¬ (x ≡ y)) keys
unfolding IsDistinct
different_keys [] h i j d m l e = omega arith
different_keys (x ∷ xs) h zero zero d m l e = omega arith
different_keys (x ∷ xs) h zero (suc j) d m l e = different_from x xs j d h.0 (omega arith) e
different_keys (x ∷ xs) h (suc i) zero d m l e = omega arith
different_keys (x ∷ xs) h (suc i) (suc j) d m l e = different_keys xs h.1 i j d (omega arith) (omega arith) e

-- no element is equal to one after it
abbrev AreDistinct : List (List Bool) → Type 0
AreDistinct [] = Unit {0}
AreDistinct (x ∷ xs) = AllByRecursion (λ y. ¬ (x ≡ y)) xs × AreDistinct xs

each_after : (x : List Bool) (xs : List (List Bool)) → ((j : ℕ) (d : List Bool) → j < length xs → ¬ (x ≡ get_or xs j d)) → AllByRecursion (λ y. ¬ (x ≡ y)) xs
each_after x [] h = tt
each_after x (y ∷ xs) h = (h zero y (omega arith), each_after x xs (λ j d l. h (suc j) d (omega arith)))

distinct_pairs : (xs : List (List Bool)) → AllPairs (λ x y. ¬ (x ≡ y)) xs → AreDistinct xs
distinct_pairs [] h = tt
distinct_pairs (x ∷ xs) h =
    (each_after x xs (λ j d l. h zero (suc j) d (omega arith) (omega arith)), distinct_pairs xs (λ i j d m l. h (suc i) (suc j) d (omega arith) (omega arith)))

-- what follows true, and what follows false
abbrev after_true : List (List Bool) → List (List Bool)
after_true [] = []
after_true ((true ∷ x) ∷ xs) = x ∷ after_true xs
after_true (_ ∷ xs) = after_true xs

abbrev after_false : List (List Bool) → List (List Bool)
after_false [] = []
after_false ((false ∷ x) ∷ xs) = x ∷ after_false xs
after_false (_ ∷ xs) = after_false xs

-- each list begins with one of the two
both_lengths : (n : ℕ) (xs : List (List Bool)) → AllByRecursion (λ x. length x ≡ suc n) xs → length xs ≡ length (after_true xs) + length (after_false xs)
both_lengths n [] h = refl
both_lengths n ([] ∷ xs) h = let e = h.0 in absurd (omega arith)
both_lengths n ((true ∷ x) ∷ xs) h = let e = both_lengths n xs h.1 in omega arith
both_lengths n ((false ∷ x) ∷ xs) h = let e = both_lengths n xs h.1 in omega arith

true_lengths : (n : ℕ) (xs : List (List Bool)) → AllByRecursion (λ x. length x ≡ suc n) xs → AllByRecursion (λ x. length x ≡ n) (after_true xs)
true_lengths n [] h = tt
true_lengths n ([] ∷ xs) h = true_lengths n xs h.1
true_lengths n ((true ∷ x) ∷ xs) h = (let e = h.0 in omega arith, true_lengths n xs h.1)
true_lengths n ((false ∷ x) ∷ xs) h = true_lengths n xs h.1

false_lengths : (n : ℕ) (xs : List (List Bool)) → AllByRecursion (λ x. length x ≡ suc n) xs → AllByRecursion (λ x. length x ≡ n) (after_false xs)
false_lengths n [] h = tt
false_lengths n ([] ∷ xs) h = false_lengths n xs h.1
false_lengths n ((true ∷ x) ∷ xs) h = false_lengths n xs h.1
false_lengths n ((false ∷ x) ∷ xs) h = (let e = h.0 in omega arith, false_lengths n xs h.1)

true_after : (x : List Bool) (xs : List (List Bool)) → AllByRecursion (λ y. ¬ ((true ∷ x) ≡ y)) xs → AllByRecursion (λ y. ¬ (x ≡ y)) (after_true xs)
true_after x [] h = tt
true_after x ([] ∷ xs) h = true_after x xs h.1
true_after x ((true ∷ y) ∷ xs) h = (λ e. h.0 (ap (λ z. true ∷ z) e), true_after x xs h.1)
true_after x ((false ∷ y) ∷ xs) h = true_after x xs h.1

false_after : (x : List Bool) (xs : List (List Bool)) → AllByRecursion (λ y. ¬ ((false ∷ x) ≡ y)) xs → AllByRecursion (λ y. ¬ (x ≡ y)) (after_false xs)
false_after x [] h = tt
false_after x ([] ∷ xs) h = false_after x xs h.1
false_after x ((true ∷ y) ∷ xs) h = false_after x xs h.1
false_after x ((false ∷ y) ∷ xs) h = (λ e. h.0 (ap (λ z. false ∷ z) e), false_after x xs h.1)

true_distinct : (xs : List (List Bool)) → AreDistinct xs → AreDistinct (after_true xs)
true_distinct [] h = tt
true_distinct ([] ∷ xs) h = true_distinct xs h.1
true_distinct ((true ∷ x) ∷ xs) h = (true_after x xs h.0, true_distinct xs h.1)
true_distinct ((false ∷ x) ∷ xs) h = true_distinct xs h.1

false_distinct : (xs : List (List Bool)) → AreDistinct xs → AreDistinct (after_false xs)
false_distinct [] h = tt
false_distinct ([] ∷ xs) h = false_distinct xs h.1
false_distinct ((true ∷ x) ∷ xs) h = false_distinct xs h.1
false_distinct ((false ∷ x) ∷ xs) h = (false_after x xs h.0, false_distinct xs h.1)

-- lists of n truth values that are all different are at most 2 ^ n
at_most_all : (n : ℕ) (xs : List (List Bool)) → AllByRecursion (λ x. length x ≡ n) xs → AreDistinct xs → length xs ≤ 2 ^ n
at_most_all zero [] h d = omega arith
at_most_all zero (x ∷ []) h d = omega arith
at_most_all zero ([] ∷ [] ∷ xs) h d = absurd (d.0.0 refl)
at_most_all zero ((b ∷ x) ∷ y ∷ xs) h d = let e = h.0 in absurd (omega arith)
at_most_all zero ([] ∷ (b ∷ y) ∷ xs) h d = let e = h.1.0 in absurd (omega arith)
at_most_all (suc n) xs h d =
    let e = both_lengths n xs h in
    let a = at_most_all n (after_true xs) (true_lengths n xs h) (true_distinct xs d) in
    let b = at_most_all n (after_false xs) (false_lengths n xs h) (false_distinct xs d) in
    let p = pow-suc 2 n in
    omega arith

-- rows of n truth values are at most 2 ^ n
pub at_most_power : (n : ℕ) (these : List Row) → AreLong n these → AreDifferent these → length these ≤ 2 ^ n
at_most_power n these long different =
    let e = length-map these (λ (r : Row). r.signs) in
    let h = at_most_all n (signs_of these)
    (recursion_from_All (λ x. length x ≡ n) (signs_of these) (All-map (λ x. length x ≡ n) (λ (r : Row). r.signs) these long)) (distinct_pairs (signs_of these) different) in
    omega arith

times_min : (a b c r : ℕ) → r ≤ a * b → r ≤ a * c → r ≤ a * min b c
times_min a b c r h l = by (b - c) (c - b) refl refl
  where
    by : (x y : ℕ) → x ≡ b - c → y ≡ c - b → r ≤ a * min b c
    by zero y e f = (let m : min b c ≡ b = omega arith in subst (λ k. r ≤ a * k) (sym m) h)
    by (suc x) y e f = (let m : min b c ≡ c = omega arith in subst (λ k. r ≤ a * k) (sym m) l)

-- rows of a list, from a count of the pairs
pub at_most_rows_with : (list : List Specifier) (these : List Row) (pairs : ℕ) → AreLong (length (atoms_of list)) these → AreDifferent these
    → length these ≤ 2 ^ predicates list * (candidates list + pairs) → length these ≤ rows_with pairs list
at_most_rows_with list these pairs long different few =
    let k = predicates list in
    let n = length (atoms_of list) in
    let l : k ≤ n = count_by-le-length is_predicate (atoms_of list) in
    let e : 2 ^ n ≡ 2 ^ k * 2 ^ (n - k) = ap (λ m. 2 ^ m) (omega (arith, l)) ∙ pow-add 2 k (n - k) in
    times_min (2 ^ k) (2 ^ (n - k)) (candidates list + pairs) (length these) (subst (λ m. length these ≤ m) e (at_most_power n these long different)) few

-- rows of a list are at most those that it may have
pub at_most_rows : (list : List Specifier) (these : List Row) → is_none list ≡ false → AreLong (length (atoms_of list)) these → AreDifferent these
    → length these ≤ 2 ^ predicates list * (candidates list + rows (cars_of list) * rows (cdrs_of list)) → length these ≤ rows list
at_most_rows list these some long different few =
    subst (λ n. length these ≤ n) (sym (rows_some list some)) (at_most_rows_with list these (rows (cars_of list) * rows (cdrs_of list)) long different few)
