-- What goes down from a list of specifiers to its atoms, its cars and its cdrs.
use Rattle.std.proofs.Common.{ℕ, zero, suc, ◌≡◌, ◌≤◌, refl, sym, subst, Bool, true, false, true≢false, if◌then◌else◌, List, [], ◌∷◌, arith, All, Decides, get_or}
use Rattle.std.specs.List.{AllByRecursion, flat_map}
use Rattle.std.proofs.lemmas.List.Elements.{All-from_recursion, recursion_from_All}
use Rattle.ls_object.specs.Universe.{Structures}
use Rattle.ls_object.specs.Inclusion.{IsInclusionOrder, under_in}
use Rattle.ls_object.proofs.UnderLemmas.{Decides-under_in}
use Rattle.ls_spec.specs.Specifier.{Specifier, all_objects, no_objects, and_of, or_of, not_of, eql_to, range_of, chars_of, symbols_of, kind_of, structure_under, any_structure, array_any, array_of, string_of, cons_of, satisfies, Specifiers, no_more, also}
use Rattle.ls_spec.specs.Meaning.{specifiers_of}
use Rattle.ls_spec.specs.Atoms.{leaves, leaves_of_all, atoms_of}
use Rattle.ls_spec.specs.Limits.{largest_depth}
use Rattle.ls_spec.specs.Fits.{IsAtom, Fits, HaveKnownNames, HaveSmallNumbers, greatest_depth}
use Rattle.ls_spec.specs.Distinct.{same}
use Rattle.ls_spec.specs.Membership.{UpgradesTo}
use Rattle.ls_spec.specs.Truth.{Learnt, IsLearnt, AreLearnt}
use Rattle.ls_spec.proofs.DistinctLemmas.{Decides-same, all_of_distinct}
use Rattle.ls_spec.proofs.ListLemmas.{AllByRecursion-append, AllByRecursion-weaker}
use Rattle.ls_lists.specs.Sides.{car_of, cdr_of, cars_of, cdrs_of}
use Rattle.ls_points.specs.Classes.{IsFitAtomOf}
use Rattle.ls_cells.specs.Codes.{Codes, AreUpgraded, IsKnown, HasCodes, HaveCodes}

-- it holds of each
abbrev pub AllOf : (Specifier → Type 0) → Specifiers → Type 0
AllOf P no_more = Unit {0}
AllOf P (also s ss) = P s × AllOf P ss

-- it goes from a specifier to its parts
pub record GoesDown (P : Specifier → Type 0) : Type 0 where
  pub of_and : (ss : Specifiers) → P (and_of ss) → AllOf P ss
  pub of_or : (ss : Specifiers) → P (or_of ss) → AllOf P ss
  pub of_not : (s : Specifier) → P (not_of s) → P s
  pub of_car : (a b : Specifier) → P (cons_of a b) → P a
  pub of_cdr : (a b : Specifier) → P (cons_of a b) → P b

module _ (P : Specifier → Type 0) (down : GoesDown P) where
  abbrev pub IsOne : Specifier → Type 0
  IsOne s = IsAtom s × P s

  mutual
    leaves_have : (s : Specifier) → P s → AllByRecursion IsOne (leaves s)
    leaves_have all_objects h = tt
    leaves_have no_objects h = tt
    leaves_have (and_of ss) h = leaves_of_all_have ss (down.of_and ss h)
    leaves_have (or_of ss) h = leaves_of_all_have ss (down.of_or ss h)
    leaves_have (not_of s) h = leaves_have s (down.of_not s h)
    leaves_have (eql_to p) h = ((tt, h), tt)
    leaves_have (range_of k lo hi) h = ((tt, h), tt)
    leaves_have (chars_of k) h = ((tt, h), tt)
    leaves_have (symbols_of k) h = ((tt, h), tt)
    leaves_have (kind_of k) h = ((tt, h), tt)
    leaves_have (structure_under name) h = ((tt, h), tt)
    leaves_have any_structure h = ((tt, h), tt)
    leaves_have (array_any simple dims) h = ((tt, h), tt)
    leaves_have (array_of e simple dims) h = ((tt, h), tt)
    leaves_have (string_of simple dim) h = ((tt, h), tt)
    leaves_have (cons_of a b) h = ((tt, h), tt)
    leaves_have (satisfies p) h = ((tt, h), tt)

    leaves_of_all_have : (ss : Specifiers) → AllOf P ss → AllByRecursion IsOne (leaves_of_all ss)
    leaves_of_all_have no_more h = tt
    leaves_of_all_have (also s ss) h = AllByRecursion-append IsOne (leaves s) (leaves_of_all ss) (leaves_have s h.0) (leaves_of_all_have ss h.1)

  listed : (list : List Specifier) → AllByRecursion P list → AllOf P (specifiers_of list)
  listed [] h = tt
  listed (s ∷ list) h = (h.0, listed list h.1)

  -- the atoms of a list
  pub atoms_have : (list : List Specifier) → AllByRecursion P list → AllByRecursion IsOne (atoms_of list)
  atoms_have list h = all_of_distinct IsOne (leaves_of_all (specifiers_of list)) (leaves_of_all_have (specifiers_of list) (listed list h))

  car_has : (s : Specifier) → P s → AllByRecursion P (car_of s)
  car_has (cons_of a b) h = (down.of_car a b h, tt)
  car_has _ h = tt

  cdr_has : (s : Specifier) → P s → AllByRecursion P (cdr_of s)
  cdr_has (cons_of a b) h = (down.of_cdr a b h, tt)
  cdr_has _ h = tt

  parts_have : (part_of : Specifier → List Specifier) → ((s : Specifier) → P s → AllByRecursion P (part_of s)) → (list : List Specifier) → AllByRecursion P list → AllByRecursion P (flat_map part_of list)
  parts_have part_of f [] h = tt
  parts_have part_of f (s ∷ list) h = AllByRecursion-append P (part_of s) (flat_map part_of list) (f s h.0) (parts_have part_of f list h.1)

  -- the cars and the cdrs of a list, from its atoms
  pub cars_have : (list : List Specifier) → AllByRecursion P (atoms_of list) → AllByRecursion P (cars_of list)
  unfolding cars_of
  cars_have list h = all_of_distinct P (flat_map car_of (atoms_of list)) (parts_have car_of car_has (atoms_of list) h)

  pub cdrs_have : (list : List Specifier) → AllByRecursion P (atoms_of list) → AllByRecursion P (cdrs_of list)
  unfolding cdrs_of
  cdrs_have list h = all_of_distinct P (flat_map cdr_of (atoms_of list)) (parts_have cdr_of cdr_has (atoms_of list) h)

  only : (list : List Specifier) → AllByRecursion IsOne list → AllByRecursion P list
  only list h = AllByRecursion-weaker IsOne P (λ s k. k.1) list h

  pub atoms_only : (list : List Specifier) → AllByRecursion P list → AllByRecursion P (atoms_of list)
  atoms_only list h = only (atoms_of list) (atoms_have list h)

-- specifiers that fit
fits_each : (structures : Structures) (ss : Specifiers) → HaveKnownNames structures ss → HaveSmallNumbers ss → greatest_depth ss ≤ largest_depth → AllOf (Fits structures) ss
fits_each structures no_more h n d = tt
fits_each structures (also s ss) h n d = ((h.0, (n.0, omega arith)), fits_each structures ss h.1 n.1 (omega arith))

pub fits_down : (structures : Structures) → GoesDown (Fits structures)
fits_down structures = record {
  of_and = λ ss h. fits_each structures ss h.0 h.1.0 (let d = h.1.1 in omega arith);
  of_or = λ ss h. fits_each structures ss h.0 h.1.0 (let d = h.1.1 in omega arith);
  of_not = λ s h. (h.0, (h.1.0, (let d = h.1.1 in omega arith)));
  of_car = λ a b h. (h.0.0, (h.1.0.0, (let d = h.1.1 in omega arith)));
  of_cdr = λ a b h. (h.0.1, (h.1.0.1, (let d = h.1.1 in omega arith)));
}

-- specifiers of whose element types the codes were learnt
codes_each : (codes : Codes) (ss : Specifiers) → HaveCodes codes ss → AllOf (HasCodes codes) ss
codes_each codes no_more h = tt
codes_each codes (also s ss) h = (h.0, codes_each codes ss h.1)

codes_down : (codes : Codes) → GoesDown (HasCodes codes)
codes_down codes = record { of_and = λ ss h. codes_each codes ss h; of_or = λ ss h. codes_each codes ss h; of_not = λ s h. h; of_car = λ a b h. h.0; of_cdr = λ a b h. h.1 }

-- specifiers of which all is learnt
learnt_each : (structures : Structures) (learnt : Learnt) (ss : Specifiers) → AreLearnt structures learnt ss → AllOf (IsLearnt structures learnt) ss
learnt_each structures learnt no_more h = tt
learnt_each structures learnt (also s ss) h = (h.0, learnt_each structures learnt ss h.1)

learnt_down : (structures : Structures) (learnt : Learnt) → GoesDown (IsLearnt structures learnt)
learnt_down structures learnt = record {
  of_and = λ ss h. learnt_each structures learnt ss h;
  of_or = λ ss h. learnt_each structures learnt ss h;
  of_not = λ s h. h;
  of_car = λ a b h. h.0;
  of_cdr = λ a b h. h.1;
}

-- the atoms of a list that fits are atoms that fit
pub fit_atoms : (structures : Structures) (list : List Specifier) → All (Fits structures) list → AllByRecursion (IsFitAtomOf structures) (atoms_of list)
fit_atoms structures list h = atoms_have (Fits structures) (fits_down structures) list (recursion_from_All (Fits structures) list h)

-- the cars and cdrs of a list that fits fit
pub fit_cars : (structures : Structures) (list : List Specifier) → All (Fits structures) list → All (Fits structures) (cars_of list)
fit_cars structures list h =
    let P = Fits structures in
    All-from_recursion P (cars_of list) (cars_have P (fits_down structures) list (atoms_only P (fits_down structures) list (recursion_from_All P list h)))

pub fit_cdrs : (structures : Structures) (list : List Specifier) → All (Fits structures) list → All (Fits structures) (cdrs_of list)
fit_cdrs structures list h =
    let P = Fits structures in
    All-from_recursion P (cdrs_of list) (cdrs_have P (fits_down structures) list (atoms_only P (fits_down structures) list (recursion_from_All P list h)))

-- and of lists of whose element types the codes were learnt
pub codes_atoms : (codes : Codes) (list : List Specifier) → All (HasCodes codes) list → All (HasCodes codes) (atoms_of list)
codes_atoms codes list h =
    let P = HasCodes codes in
    All-from_recursion P (atoms_of list) (atoms_only P (codes_down codes) list (recursion_from_All P list h))

pub codes_cars : (codes : Codes) (list : List Specifier) → All (HasCodes codes) list → All (HasCodes codes) (cars_of list)
codes_cars codes list h =
    let P = HasCodes codes in
    All-from_recursion P (cars_of list) (cars_have P (codes_down codes) list (atoms_only P (codes_down codes) list (recursion_from_All P list h)))

pub codes_cdrs : (codes : Codes) (list : List Specifier) → All (HasCodes codes) list → All (HasCodes codes) (cdrs_of list)
codes_cdrs codes list h =
    let P = HasCodes codes in
    All-from_recursion P (cdrs_of list) (cdrs_have P (codes_down codes) list (atoms_only P (codes_down codes) list (recursion_from_All P list h)))

-- where all is learnt of the atoms of a list, so it is of those of its cars and of its cdrs
pub learnt_cars : (structures : Structures) (learnt : Learnt) (list : List Specifier) → All (IsLearnt structures learnt) (atoms_of list) → All (IsLearnt structures learnt) (atoms_of (cars_of list))
learnt_cars structures learnt list h =
    let P = IsLearnt structures learnt in let d = learnt_down structures learnt in
    All-from_recursion P (atoms_of (cars_of list)) (atoms_only P d (cars_of list) (cars_have P d list (recursion_from_All P (atoms_of list) h)))

pub learnt_cdrs : (structures : Structures) (learnt : Learnt) (list : List Specifier) → All (IsLearnt structures learnt) (atoms_of list) → All (IsLearnt structures learnt) (atoms_of (cdrs_of list))
learnt_cdrs structures learnt list h =
    let P = IsLearnt structures learnt in let d = learnt_down structures learnt in
    All-from_recursion P (atoms_of (cdrs_of list)) (atoms_only P d (cdrs_of list) (cdrs_have P d list (recursion_from_All P (atoms_of list) h)))

-- what is known where these codes were learnt: of an element type the first of them that is its own, and all structure
-- names
abbrev pub code_in : Codes → Specifier → ℕ
code_in [] e = 0
code_in (p ∷ codes) e = if same p.0 e then p.1 else code_in codes e

abbrev pub learnt_by : Structures → Codes → Learnt
learnt_by structures codes = record { code_of = code_in codes; under = under_in structures }

-- a code that was learnt is right
pub code_right : (structures : Structures) (codes : Codes) (e : Specifier) → AreUpgraded structures codes → IsKnown codes e → UpgradesTo structures e (code_in codes e)
code_right structures [] e u (i, l, f) = absurd (omega (arith, l))
code_right structures (p ∷ codes) e u k = by (same p.0 e) (Decides-same p.0 e) k (λ more. code_right structures codes e u.1 more)
  where
    by : (b : Bool) → Decides b (p.0 ≡ e) → IsKnown (p ∷ codes) e → (IsKnown codes e → UpgradesTo structures e (code_in codes e)) → UpgradesTo structures e (if b then p.1 else code_in codes e)
    by true d h f = subst (λ s. UpgradesTo structures s p.1) (d.0 refl) u.0
    by false d (zero, l, is) f = absurd (true≢false (sym (d.1 is)))
    by false d (suc i, l, is) f = f (i, omega arith, is)

mutual
  -- it is all that has to be known of specifiers whose codes were learnt
  learnt_coded : (structures : Structures) (codes : Codes) (s : Specifier) → AreUpgraded structures codes → IsInclusionOrder structures → HasCodes codes s → IsLearnt structures (learnt_by structures codes) s
  learnt_coded structures codes (and_of ss) u o k = learnt_all_coded structures codes ss u o k
  learnt_coded structures codes (or_of ss) u o k = learnt_all_coded structures codes ss u o k
  learnt_coded structures codes (not_of s) u o k = learnt_coded structures codes s u o k
  learnt_coded structures codes (cons_of a b) u o k = (learnt_coded structures codes a u o k.0, learnt_coded structures codes b u o k.1)
  learnt_coded structures codes (array_of e simple dims) u o k = code_right structures codes e u k
  learnt_coded structures codes (structure_under y) u o k = λ x. Decides-under_in structures x y o
  learnt_coded structures codes all_objects u o k = tt
  learnt_coded structures codes no_objects u o k = tt
  learnt_coded structures codes (eql_to p) u o k = tt
  learnt_coded structures codes (range_of r lo hi) u o k = tt
  learnt_coded structures codes (chars_of c) u o k = tt
  learnt_coded structures codes (symbols_of c) u o k = tt
  learnt_coded structures codes (kind_of c) u o k = tt
  learnt_coded structures codes any_structure u o k = tt
  learnt_coded structures codes (array_any simple dims) u o k = tt
  learnt_coded structures codes (string_of simple dim) u o k = tt
  learnt_coded structures codes (satisfies p) u o k = tt

  learnt_all_coded : (structures : Structures) (codes : Codes) (ss : Specifiers) → AreUpgraded structures codes → IsInclusionOrder structures → HaveCodes codes ss → AreLearnt structures (learnt_by structures codes) ss
  learnt_all_coded structures codes no_more u o k = tt
  learnt_all_coded structures codes (also s ss) u o k = (learnt_coded structures codes s u o k.0, learnt_all_coded structures codes ss u o k.1)

pub codes_are_all : (structures : Structures) (codes : Codes) (list : List Specifier) → AreUpgraded structures codes → IsInclusionOrder structures → All (HasCodes codes) list
    → All (IsLearnt structures (learnt_by structures codes)) list
codes_are_all structures codes list u o k i d lt = learnt_coded structures codes (get_or list i d) u o (k i d lt)
