-- The atoms of a list, and the parts of its conses.
use Rattle.std.proofs.Common.{suc, ◌≡◌, arith, refl, true, List, [], ◌∷◌}
use Rattle.std.specs.List.{AllByRecursion, Contains, flat_map}
use Rattle.ls_spec.specs.Specifier.{Specifier, all_objects, no_objects, and_of, or_of, not_of, Specifiers, no_more, also}
use Rattle.ls_spec.specs.Meaning.{specifiers_of}
use Rattle.ls_spec.specs.Atoms.{leaves, leaves_of_all, atoms_of}
use Rattle.ls_spec.specs.Distinct.{distinct}
use Rattle.ls_spec.proofs.DistinctLemmas.{all_from_distinct, all_of_distinct}
use Rattle.ls_spec.proofs.ListLemmas.{AllByRecursion-append}
use Rattle.ls_lists.specs.Sides.{car_of, cdr_of, cars_of, cdrs_of}
use Rattle.ls_lists.specs.Walks.{is_none}
use Rattle.ls_cells.specs.declared.side.Side.TheVariants as side_variant
use Rattle.ls_cells.specs.Values.{AreAmong}
use Rattle.ls_cells.specs.steps.Halves.{ArePartsAmong}
use Rattle.ls_cells.proofs.ValueLemmas.{all_split}

-- neither T nor NIL, and made by none of AND, OR and NOT
abbrev pub IsAtom : Specifier → Type 0
IsAtom all_objects = ⊥
IsAtom no_objects = ⊥
IsAtom (and_of ss) = ⊥
IsAtom (or_of ss) = ⊥
IsAtom (not_of s) = ⊥
IsAtom _ = Unit {0}

mutual
  leaves_atoms : (s : Specifier) → AllByRecursion IsAtom (leaves s)
  leaves_atoms all_objects = tt
  leaves_atoms no_objects = tt
  leaves_atoms (and_of ss) = leaves_atoms_of_all ss
  leaves_atoms (or_of ss) = leaves_atoms_of_all ss
  leaves_atoms (not_of s) = leaves_atoms s
  leaves_atoms _ = (tt, tt)

  leaves_atoms_of_all : (ss : Specifiers) → AllByRecursion IsAtom (leaves_of_all ss)
  leaves_atoms_of_all no_more = tt
  leaves_atoms_of_all (also s ss) = AllByRecursion-append IsAtom (leaves s) (leaves_of_all ss) (leaves_atoms s) (leaves_atoms_of_all ss)

pub atoms_are_atoms : (list : List Specifier) → AllByRecursion IsAtom (atoms_of list)
atoms_are_atoms list = all_of_distinct IsAtom (leaves_of_all (specifiers_of list)) (leaves_atoms_of_all (specifiers_of list))

-- each of a list is in it
in_more : (s : Specifier) (xs list : List Specifier) → AllByRecursion (Contains xs) list → AllByRecursion (Contains (s ∷ xs)) list
in_more s xs [] h = tt
in_more s xs (x ∷ list) h = let c = h.0 in ((suc c.0, omega (arith, c.1), c.2), in_more s xs list h.1)

in_itself : (xs : List Specifier) → AllByRecursion (Contains xs) xs
in_itself [] = tt
in_itself (x ∷ xs) = ((0, omega arith, refl), in_more x xs xs (in_itself xs))

in_distinct : (xs : List Specifier) → AllByRecursion (Contains (distinct xs)) xs
in_distinct xs = all_from_distinct (Contains (distinct xs)) xs (in_itself (distinct xs))

-- the leaves of each of a list are among its atoms
leaves_each_among : (atoms list : List Specifier) → AreAmong atoms (leaves_of_all (specifiers_of list)) → AllByRecursion (λ s. AreAmong atoms (leaves s)) list
leaves_each_among atoms [] h = tt
leaves_each_among atoms (s ∷ list) h = let both = all_split (Contains atoms) (leaves s) (leaves_of_all (specifiers_of list)) h in (both.0, leaves_each_among atoms list both.1)

pub leaves_among : (list : List Specifier) → AllByRecursion (λ s. AreAmong (atoms_of list) (leaves s)) list
leaves_among list = leaves_each_among (atoms_of list) list (in_distinct (leaves_of_all (specifiers_of list)))

-- what is said of the parts of all is said of those of each
parts_each : (P : Specifier → Type 0) (f : Specifier → List Specifier) (atoms : List Specifier) → AllByRecursion P (flat_map f atoms) → AllByRecursion (λ s. AllByRecursion P (f s)) atoms
parts_each P f [] h = tt
parts_each P f (s ∷ atoms) h = let both = all_split P (f s) (flat_map f atoms) h in (both.0, parts_each P f atoms both.1)

leaves_of_parts : (those parts : List Specifier) → AllByRecursion (λ s. AreAmong those (leaves s)) parts → AreAmong those (flat_map leaves parts)
leaves_of_parts those [] h = tt
leaves_of_parts those (s ∷ parts) h = AllByRecursion-append (Contains those) (leaves s) (flat_map leaves parts) h.0 (leaves_of_parts those parts h.1)

leaves_of_each : (those : List Specifier) (f : Specifier → List Specifier) (atoms : List Specifier) → AllByRecursion (λ s. AllByRecursion (λ t. AreAmong those (leaves t)) (f s)) atoms → AllByRecursion (λ s. AreAmong those (flat_map leaves (f s))) atoms
leaves_of_each those f [] h = tt
leaves_of_each those f (s ∷ atoms) h = (leaves_of_parts those (f s) h.0, leaves_of_each those f atoms h.1)

among_parts : (f : Specifier → List Specifier) (atoms : List Specifier) → AllByRecursion (λ s. AreAmong (atoms_of (distinct (flat_map f atoms))) (flat_map leaves (f s))) atoms
among_parts f atoms =
    let those = atoms_of (distinct (flat_map f atoms)) in
    leaves_of_each those f atoms (parts_each (λ t. AreAmong those (leaves t)) f atoms (all_from_distinct (λ t. AreAmong those (leaves t)) (flat_map f atoms) (leaves_among (distinct (flat_map f atoms)))))

pub cars_among : (list : List Specifier) → ArePartsAmong side_variant.Car (atoms_of (cars_of list)) (atoms_of list)
unfolding cars_of
cars_among list = among_parts car_of (atoms_of list)

pub cdrs_among : (list : List Specifier) → ArePartsAmong side_variant.Cdr (atoms_of (cdrs_of list)) (atoms_of list)
unfolding cdrs_of
cdrs_among list = among_parts cdr_of (atoms_of list)

-- where there are no cars no atom has one
never_none : (xs : List Specifier) → is_none xs ≡ true → AllByRecursion (λ s. ⊥) xs
never_none [] h = tt
never_none (x ∷ xs) h = absurd (cc)

empty_each : (f : Specifier → List Specifier) (atoms : List Specifier) → AllByRecursion (λ s. AllByRecursion (λ t. ⊥) (f s)) atoms → AllByRecursion (λ s. f s ≡ []) atoms
empty_each f [] h = tt
empty_each f (s ∷ atoms) h = (none (f s) h.0, empty_each f atoms h.1)
  where
    none : (xs : List Specifier) → AllByRecursion (λ t. ⊥) xs → xs ≡ []
    none [] k = refl
    none (x ∷ xs) k = absurd k.0

pub no_car : (list : List Specifier) → is_none (cars_of list) ≡ true → AllByRecursion (λ s. car_of s ≡ []) (atoms_of list)
unfolding cars_of
no_car list h = empty_each car_of (atoms_of list) (parts_each (λ t. ⊥) car_of (atoms_of list) (all_from_distinct (λ t. ⊥) (flat_map car_of (atoms_of list)) (never_none _ h)))
