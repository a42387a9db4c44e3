-- The arrays, what may be asked of one, and how many arrays are enough to stand for all.
use Rattle.std.specs.Prelude.{ℕ, zero, suc, ◌+◌, ◌*◌, Bool, true, false, not, ◌&&◌, ◌||◌, IsTrue, List, [], ◌∷◌, length, filter}
use Rattle.std.specs.List.{flat_map, range_with_len}
use Rattle.ls_object.specs.declared.table.TheConstants.{TABLE_LEN}
use Rattle.ls_object.specs.Universe.{LispObject, node, array, Structures}
use Rattle.ls_tables.specs.Sets.{is_in}
use Rattle.ls_spec.specs.Fits.{AreSmallDimensions}
use Rattle.ls_spec.specs.Membership.{IsArrayWith, MatchesDimensions}
use Rattle.ls_lists.specs.Candidates.{Pattern, pattern_in, shapes}
use Rattle.ls_arrays.specs.declared.atom.ArrayAtom.{ArrayAtom}

-- an array, with any marks
abbrev pub IsArray : LispObject → Type 0
IsArray (node marks (array c simple dims)) = Unit {0}
IsArray _ = ⊥

-- the arrays are the same over every structure list
abbrev pub IsOverEvery : Structures → Type 0
IsOverEvery structures = Unit {0}

-- an atom whose rank and dimensions are within the limits may be asked about
abbrev pub IsFit : ArrayAtom → Type 0
IsFit a = AreSmallDimensions a.dims

-- an array whose element code is one of the atom's, which is simple if that is asked, and whose dimensions match
abbrev pub IsArrayIn : ArrayAtom → LispObject → Type 0
IsArrayIn a (node marks shape) =
    IsArrayWith (λ c. IsTrue (is_in a.codes.bits c)) a.simple (MatchesDimensions a.dims) shape

abbrev pub IsIn : Structures → ArrayAtom → LispObject → Type 0
IsIn structures a o = IsArrayIn a o

-- whether p holds of each number below n
abbrev pub all_below : ℕ → (ℕ → Bool) → Bool
all_below zero p = true
all_below (suc n) p = p n && all_below n p

-- whether every code of the table is in the set
unfoldable pub is_whole : ℕ → Bool
is_whole bits = all_below TABLE_LEN (λ k. is_in bits k)

-- whether the code is in the set of an atom other than the whole table
abbrev pub is_named : List ArrayAtom → ℕ → Bool
is_named [] k = false
is_named (a ∷ atoms) k = (not (is_whole a.codes.bits) && is_in a.codes.bits k) || is_named atoms k

-- the codes of the table that pass the test, in order
unfoldable pub codes_that : (ℕ → Bool) → List ℕ
codes_that p = filter p (range_with_len 0 TABLE_LEN)

-- what the atoms ask of the dimensions, where they name a rank
abbrev pub patterns : List ArrayAtom → List Pattern
patterns atoms = flat_map (λ a. pattern_in a.dims) atoms

-- arrays that are enough: simple ones and others, of each code that is named and of one more, of each shape that the
-- patterns tell apart and of one more
abbrev pub array_limit : List ArrayAtom → ℕ
array_limit atoms = 2 * (length (codes_that (is_named atoms)) + 1) * (1 + shapes (patterns atoms))
