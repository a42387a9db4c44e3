-- The cars and the cdrs of a list are less high than the list.
use Rattle.std.proofs.Common.{ℕ, ◌≡◌, ◌≤◌, ◌<◌, zero, suc, refl, List, [], ◌∷◌, true, false, arith}
use Rattle.std.specs.List.{AllByRecursion, flat_map}
use Rattle.ls_spec.specs.Specifier.{Specifier, all_objects, no_objects, and_of, or_of, not_of, eql_to, range_of, chars_of, symbols_of, kind_of, structure_under, any_structure, array_any, array_of, string_of, cons_of, satisfies, Specifiers, no_more, also}
use Rattle.ls_spec.specs.Meaning.{specifiers_of}
use Rattle.ls_spec.specs.Atoms.{leaves, leaves_of_all, atoms_of}
use Rattle.ls_spec.specs.Distinct.{distinct}
use Rattle.ls_spec.proofs.DistinctLemmas.{all_of_distinct}
use Rattle.ls_spec.proofs.ListLemmas.{AllByRecursion-append}
use Rattle.ls_lists.specs.Sides.{car_of, cdr_of, cars_of, cdrs_of, nesting, nesting_of_all, height}
use Rattle.ls_lists.specs.Walks.{is_none}

-- fewer than n CONS stand in one another
abbrev IsLow : ℕ → Specifier → Type 0
IsLow n s = nesting s < n

mutual
  -- the leaves of a specifier are no more nested than it
  low_leaves : (n : ℕ) (s : Specifier) → IsLow n s → AllByRecursion (IsLow n) (leaves s)
  low_leaves n all_objects h = tt
  low_leaves n no_objects h = tt
  low_leaves n (and_of ss) h = low_leaves_of_all n ss h
  low_leaves n (or_of ss) h = low_leaves_of_all n ss h
  low_leaves n (not_of s) h = low_leaves n s h
  low_leaves n (eql_to p) h = (h, tt)
  low_leaves n (range_of k lo hi) h = (h, tt)
  low_leaves n (chars_of k) h = (h, tt)
  low_leaves n (symbols_of k) h = (h, tt)
  low_leaves n (kind_of k) h = (h, tt)
  low_leaves n (structure_under name) h = (h, tt)
  low_leaves n any_structure h = (h, tt)
  low_leaves n (array_any simple dims) h = (h, tt)
  low_leaves n (array_of e simple dims) h = (h, tt)
  low_leaves n (string_of simple dim) h = (h, tt)
  low_leaves n (cons_of a b) h = (h, tt)
  low_leaves n (satisfies p) h = (h, tt)

  low_leaves_of_all : (n : ℕ) (ss : Specifiers) → nesting_of_all ss < n → AllByRecursion (IsLow n) (leaves_of_all ss)
  low_leaves_of_all n no_more h = tt
  low_leaves_of_all n (also s ss) h =
      AllByRecursion-append (IsLow n) (leaves s) (leaves_of_all ss) (low_leaves n s (omega arith)) (low_leaves_of_all n ss (omega arith))

-- the leaves of a list are no more nested than its height
low_leaves_of_list : (n : ℕ) (list : List Specifier) → height list ≤ n → AllByRecursion (IsLow n) (leaves_of_all (specifiers_of list))
low_leaves_of_list n [] h = tt
low_leaves_of_list n (s ∷ list) h =
    AllByRecursion-append (IsLow n) (leaves s) (leaves_of_all (specifiers_of list)) (low_leaves n s (omega arith)) (low_leaves_of_list n list (omega arith))

-- a car and a cdr are less nested than their CONS
low_car : (n : ℕ) (s : Specifier) → IsLow (suc n) s → AllByRecursion (IsLow n) (car_of s)
low_car n (cons_of a b) h = (let k : nesting a < n = omega arith in k, tt)
low_car n _ h = tt

low_cdr : (n : ℕ) (s : Specifier) → IsLow (suc n) s → AllByRecursion (IsLow n) (cdr_of s)
low_cdr n (cons_of a b) h = (let k : nesting b < n = omega arith in k, tt)
low_cdr n _ h = tt

-- what is taken from each of a list, taken together
low_parts : (n : ℕ) (part_of : Specifier → List Specifier) → ((s : Specifier) → IsLow (suc n) s → AllByRecursion (IsLow n) (part_of s))
    → (list : List Specifier) → AllByRecursion (IsLow (suc n)) list → AllByRecursion (IsLow n) (flat_map part_of list)
low_parts n part_of f [] h = tt
low_parts n part_of f (s ∷ list) h =
    AllByRecursion-append (IsLow n) (part_of s) (flat_map part_of list) (f s h.0) (low_parts n part_of f list h.1)

low_height : (n : ℕ) (list : List Specifier) → AllByRecursion (IsLow n) list → height list ≤ n
low_height n [] h = omega arith
low_height n (s ∷ list) h = let k = low_height n list h.1 in let l : nesting s < n = h.0 in omega arith

low_atoms : (n : ℕ) (list : List Specifier) → height list ≤ n → AllByRecursion (IsLow n) (atoms_of list)
low_atoms n list h = all_of_distinct (IsLow n) (leaves_of_all (specifiers_of list)) (low_leaves_of_list n list h)

parts_fall : (n : ℕ) (part_of : Specifier → List Specifier) → ((s : Specifier) → IsLow (suc n) s → AllByRecursion (IsLow n) (part_of s))
    → (list : List Specifier) → height list ≤ suc n → height (distinct (flat_map part_of (atoms_of list))) ≤ n
parts_fall n part_of f list h =
    low_height n _ (all_of_distinct (IsLow n) (flat_map part_of (atoms_of list)) (low_parts n part_of f (atoms_of list) (low_atoms (suc n) list h)))

-- the cars of a list, and its cdrs, are less high
pub cars_fall : (list : List Specifier) (n : ℕ) → height list ≤ suc n → height (cars_of list) ≤ n
unfolding cars_of
cars_fall list n h = parts_fall n car_of (low_car n) list h

pub cdrs_fall : (list : List Specifier) (n : ℕ) → height list ≤ suc n → height (cdrs_of list) ≤ n
unfolding cdrs_of
cdrs_fall list n h = parts_fall n cdr_of (low_cdr n) list h

-- only the empty list has the height 0
pub height_some : (list : List Specifier) → is_none list ≡ false → 0 < height list
height_some [] h = absurd (let k : true ≡ false = h in cc)
height_some (s ∷ list) h = omega arith

pub height_none : (list : List Specifier) → height list ≤ 0 → is_none list ≡ true
height_none [] h = refl
height_none (s ∷ list) h = absurd (omega arith)

-- the cars and the cdrs of a list that isn't empty are less high than it
pub cars_less : (list : List Specifier) → is_none list ≡ false → height (cars_of list) < height list
cars_less list e = at (height list) (height_some list e) refl
  where
    at : (n : ℕ) → 0 < n → height list ≡ n → height (cars_of list) < height list
    at zero h k = absurd (omega arith)
    at (suc n) h k = let j = cars_fall list n (omega arith) in omega arith

pub cdrs_less : (list : List Specifier) → is_none list ≡ false → height (cdrs_of list) < height list
cdrs_less list e = at (height list) (height_some list e) refl
  where
    at : (n : ℕ) → 0 < n → height list ≡ n → height (cdrs_of list) < height list
    at zero h k = absurd (omega arith)
    at (suc n) h k = let j = cdrs_fall list n (omega arith) in omega arith
