-- How many objects are enough for a list of specifiers, beside its conses.
use Rattle.std.specs.Prelude.{ℕ, zero, suc, ◌+◌, ◌*◌, ◌==◌, min, Bool, true, false, if◌then◌else◌, nat_eq, List, [], ◌∷◌, ◌++◌, Option, Some, fold, filter, map, length, slice_get}
use Rattle.std.specs.List.{flat_map, count_by, list_any, sum_by}
use Rattle.ls_object.specs.declared.table.TheConstants.{TABLE_LEN}
use Rattle.ls_spec.specs.declared.spec.DimPattern.{DimPattern}
use Rattle.ls_spec.specs.declared.spec.DimPattern.TheVariants as dimensions
use Rattle.ls_spec.specs.Specifier.{Specifier, eql_to, range_of, kind_of, structure_under, any_structure, array_any, array_of, string_of, satisfies}
use Rattle.ls_spec.specs.Atoms.{atoms_of}
use Rattle.ls_spec.specs.Distinct.{distinct}

-- tests of one atom
abbrev pub is_predicate : Specifier → Bool
is_predicate (satisfies p) = true
is_predicate _ = false

abbrev pub is_range : Specifier → Bool
is_range (range_of k lo hi) = true
is_range _ = false

abbrev pub is_single : Specifier → Bool
is_single (eql_to p) = true
is_single _ = false

abbrev pub is_structure : Specifier → Bool
is_structure (structure_under name) = true
is_structure any_structure = true
is_structure _ = false

abbrev pub is_kind : Specifier → Bool
is_kind (kind_of k) = true
is_kind _ = false

abbrev pub is_string : Specifier → Bool
is_string (string_of simple dim) = true
is_string _ = false

-- the element specifier of an array atom, if it names one
abbrev pub element_of : Specifier → List Specifier
element_of (array_of e simple dims) = e ∷ []
element_of _ = []

-- a number, or nothing, for each dimension
abbrev pub Pattern : Type 0
Pattern = List (Option ℕ)

abbrev pub pattern_in : DimPattern → List Pattern
pattern_in dimensions.Any = []
pattern_in (dimensions.Places places) = places ∷ []

-- what an array atom asks of the dimensions, if it names a rank. A string has one dimension.
abbrev pub pattern_of : Specifier → List Pattern
pattern_of (array_any simple dims) = pattern_in dims
pattern_of (array_of e simple dims) = pattern_in dims
pattern_of (string_of simple dim) = (dim ∷ []) ∷ []
pattern_of _ = []

-- the number that a pattern names at a place, if it does
abbrev pub number_at : ℕ → Pattern → List ℕ
number_at place pattern = named (slice_get pattern place)
  where
    named : Option (Option ℕ) → List ℕ
    named (Some (Some n)) = n ∷ []
    named _ = []

-- the numbers with one more behind them, if it isn't there
abbrev pub with_number : List ℕ → ℕ → List ℕ
with_number found n = if list_any (nat_eq n) found then found else found ++ n ∷ []

-- each of the numbers once, in order of first occurrence
abbrev pub distinct_numbers : List ℕ → List ℕ
distinct_numbers numbers = fold with_number [] numbers

-- f 0 * f 1 * .. for the numbers below n
abbrev pub product_below : ℕ → (ℕ → ℕ) → ℕ
product_below zero f = 1
product_below (suc n) f = product_below n f * f n

-- at each place an array has one of the numbers that the patterns name there, or another
abbrev pub shapes_of_rank : ℕ → List Pattern → ℕ
shapes_of_rank rank patterns = product_below rank (λ place. 1 + length (distinct_numbers (flat_map (number_at place) patterns)))

-- those of each rank that the patterns name
abbrev pub shapes : List Pattern → ℕ
shapes patterns = sum_by (λ rank. shapes_of_rank rank (filter (λ p. length p == rank) patterns)) (distinct_numbers (map length patterns))

-- The element codes that can be told apart, at most those of the upgrading table. A string atom asks for three.
abbrev pub element_codes : List Specifier → ℕ
element_codes atoms = min TABLE_LEN (length (distinct (flat_map element_of atoms)) + (if list_any is_string atoms then 3 else 0))

-- arrays that are enough: simple ones and others, of each element code and of one more, of each shape and of one more
unfoldable pub arrays : List Specifier → ℕ
arrays atoms = 2 * (element_codes atoms + 1) * (1 + shapes (flat_map pattern_of atoms))

-- objects that are enough for a list with these atoms, beside its conses
unfoldable pub candidates_of_atoms : List Specifier → ℕ
candidates_of_atoms atoms =
    20 + 6 * count_by is_range atoms + 3 * count_by is_single atoms + count_by is_structure atoms + count_by is_kind atoms + arrays atoms

abbrev pub candidates : List Specifier → ℕ
candidates list = candidates_of_atoms (atoms_of list)

-- the predicates (SATISFIES) among the atoms of a list
abbrev pub predicates : List Specifier → ℕ
predicates list = count_by is_predicate (atoms_of list)
