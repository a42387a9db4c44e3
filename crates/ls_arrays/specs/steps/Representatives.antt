-- The arrays that stand for all arrays, as the functions make them.
use Rattle.std.specs.Prelude.{ℕ, zero, suc, ◌<◌, ◌⊎◌, max, Bool, true, false, not, ◌==◌, nat_eq, List, [], ◌∷◌, ◌++◌, map, length, if◌then◌else◌, Option, Some, None, replicate, get_or}
use Rattle.std.specs.List.{AllByRecursion, flat_map, list_any}
use Rattle.ls_object.specs.Universe.{LispObject, node, array}
use Rattle.ls_spec.specs.declared.spec.DimPattern.{DimPattern}
use Rattle.ls_spec.specs.declared.spec.DimPattern.TheVariants.{Any, Places}
use Rattle.ls_lists.specs.Candidates.{Pattern, with_number}
use Rattle.ls_arrays.specs.declared.atom.ArrayAtom.{ArrayAtom}
use Rattle.ls_arrays.specs.Arrays.{is_named, codes_that}

-- some element of the list is as asked
abbrev pub SomeOf : {X : Type 0} → (X → Type 0) → List X → Type 0
SomeOf P [] = ⊥
SomeOf P (x ∷ xs) = P x ⊎ SomeOf P xs

-- ---- what patterns name

-- whether the number is in the list
abbrev pub has : List ℕ → ℕ → Bool
has list n = list_any (nat_eq n) list

-- the number that a pattern names at a place
abbrev pub name_at : ℕ → Pattern → Option ℕ
name_at i ps = get_or ps i None

-- the numbers with one more behind them, if there is one and it isn't there
abbrev pub with_name : List ℕ → Option ℕ → List ℕ
with_name list None = list
with_name list (Some n) = with_number list n

-- the numbers that the patterns of a rank name at a place, each once, behind those found before
abbrev pub column_past : List ℕ → ℕ → ℕ → List Pattern → List ℕ
column_past found rank i [] = found
column_past found rank i (ps ∷ pss) =
    column_past (if length ps == rank then with_name found (name_at i ps) else found) rank i pss

abbrev pub column : ℕ → ℕ → List Pattern → List ℕ
column rank i pss = column_past [] rank i pss

-- those of as many places as given, from the place i on
abbrev pub columns_from : ℕ → ℕ → ℕ → List Pattern → List (List ℕ)
columns_from rank i zero pss = []
columns_from rank i (suc n) pss = column rank i pss ∷ columns_from rank (suc i) n pss

abbrev pub columns : ℕ → List Pattern → List (List ℕ)
columns rank pss = columns_from rank 0 rank pss

-- the ranks of patterns, each once, behind those found before
abbrev pub ranks_past : List ℕ → List Pattern → List ℕ
ranks_past found [] = found
ranks_past found (ps ∷ pss) = ranks_past (with_number found (length ps)) pss

-- the patterns of the atoms, one atom at a time
abbrev pub places_in : DimPattern → List Pattern → List Pattern
places_in Any pss = pss
places_in (Places ps) pss = ps ∷ pss

abbrev pub places_of : List ArrayAtom → List Pattern
places_of [] = []
places_of (a ∷ atoms) = places_in a.dims (places_of atoms)

-- the ranks with that of one pattern, and the numbers of a column with that of one pattern
abbrev pub ranks_with : List ℕ → DimPattern → List ℕ
ranks_with found Any = found
ranks_with found (Places ps) = with_number found (length ps)

abbrev pub column_with : List ℕ → ℕ → ℕ → DimPattern → List ℕ
column_with found rank i Any = found
column_with found rank i (Places ps) = if length ps == rank then with_name found (name_at i ps) else found

-- each number that a pattern names is below a bound
abbrev pub IsNameBelow : ℕ → Option ℕ → Type 0
IsNameBelow limit None = Unit {0}
IsNameBelow limit (Some m) = m < limit

abbrev pub AreBelow : ℕ → List Pattern → Type 0
AreBelow limit pss = AllByRecursion (λ ps. AllByRecursion (IsNameBelow limit) ps) pss

-- ---- dimensions

-- every choice of a number of each column, or of the fresh number
abbrev pub tuples : ℕ → List (List ℕ) → List (List ℕ)
tuples fresh [] = [] ∷ []
tuples fresh (ns ∷ nss) = flat_map (λ n. map (λ t. n ∷ t) (tuples fresh nss)) (ns ++ fresh ∷ [])

-- the greatest of the numbers, or 0
abbrev pub greatest : List ℕ → ℕ
greatest [] = 0
greatest (n ∷ ns) = max n (greatest ns)

-- dimensions of a rank that isn't named
abbrev pub unnamed_dims : List ℕ → List ℕ
unnamed_dims ranks = replicate (suc (greatest ranks)) 0

abbrev pub dimension_stand_ins : ℕ → List Pattern → List (List ℕ)
dimension_stand_ins fresh pss =
    unnamed_dims (ranks_past [] pss) ∷ flat_map (λ r. tuples fresh (columns r pss)) (ranks_past [] pss)

-- ---- codes

-- the first of the numbers, if there is one
abbrev pub first_of : List ℕ → List ℕ
first_of [] = []
first_of (n ∷ ns) = n ∷ []

-- the codes that are named, and the first one that isn't
abbrev pub code_stand_ins : List ArrayAtom → List ℕ
code_stand_ins atoms = codes_that (is_named atoms) ++ first_of (codes_that (λ k. not (is_named atoms k)))

-- ---- arrays

abbrev pub array_at : ℕ → Bool → List ℕ → LispObject
array_at c simple dims = node [] (array c simple dims)

abbrev pub with_dims : List (List ℕ) → ℕ → Bool → List LispObject
with_dims dims c simple = map (array_at c simple) dims

abbrev pub with_code : List (List ℕ) → ℕ → List LispObject
with_code dims c = with_dims dims c false ++ with_dims dims c true

abbrev pub with_codes : List (List ℕ) → List ℕ → List LispObject
with_codes dims codes = flat_map (with_code dims) codes
