-- What the atoms of a list ask of arrays.
use Rattle.std.specs.Prelude.{ℕ, ◌≡◌, ◌<◌, ◌==◌, Bool, false, true, List, [], ◌∷◌, map}
use Rattle.ls_object.specs.declared.table.TheConstants.{TABLE_LEN}
use Rattle.ls_object.specs.Universe.{LispObject, node, Structures, IsObject}
use Rattle.ls_tables.specs.Sets.{is_in}
use Rattle.ls_spec.specs.declared.spec.DimPattern.{DimPattern}
use Rattle.ls_spec.specs.declared.spec.DimPattern.TheVariants as dimensions
use Rattle.ls_spec.specs.Specifier.{Specifier, array_any, array_of, string_of}
use Rattle.ls_spec.specs.Membership.{UpgradesTo}
use Rattle.ls_spec.specs.Truth.{Learnt, is_array_with, is_string_code, matches_dimensions}
use Rattle.ls_arrays.specs.Arrays.{IsArray}
use Rattle.ls_arrays.specs.declared.atom.ArrayAtom.{ArrayAtom}
use Rattle.ls_cells.specs.Cells.{signs_at, bare}

-- the codes of the table that are in the set are those that pass the test
abbrev pub HasCodesThat : (ℕ → Bool) → ArrayAtom → Type 0
HasCodesThat test a = (k : ℕ) → k < TABLE_LEN → is_in a.codes.bits k ≡ test k

-- simple or not, and the dimensions
abbrev pub HasShape : Bool → DimPattern → ArrayAtom → Type 0
HasShape simple dims a = (a.simple ≡ simple) × (a.dims ≡ dims)

-- no code at all
abbrev pub IsNotAsked : ArrayAtom → Type 0
IsNotAsked a = HasCodesThat (λ k. false) a × HasShape false dimensions.Any a

-- What the atom asks of an array: any code of the table, the upgraded code of its element type, or one of a string. An
-- atom of other objects asks for no code.
abbrev pub IsAskedBy : Structures → Specifier → ArrayAtom → Type 0
IsAskedBy structures (array_any simple dims) a = HasCodesThat (λ k. true) a × HasShape simple dims a
IsAskedBy structures (array_of e simple dims) a =
    ((c : ℕ) × UpgradesTo structures e c × HasCodesThat (λ k. k == c) a) × HasShape simple dims a
IsAskedBy structures (string_of simple dim) a =
    HasCodesThat is_string_code a × HasShape simple (dimensions.Places (dim ∷ [])) a
IsAskedBy structures _ a = IsNotAsked a

-- one for each atom
abbrev pub AreAskedBy : Structures → List Specifier → List ArrayAtom → Type 0
AreAskedBy structures [] [] = Unit {0}
AreAskedBy structures (s ∷ ss) (a ∷ atoms) = IsAskedBy structures s a × AreAskedBy structures ss atoms
AreAskedBy structures _ _ = ⊥

-- whether an object is an array in each of the atoms
abbrev pub is_asked : LispObject → ArrayAtom → Bool
is_asked (node marks shape) a =
    is_array_with (λ c. is_in a.codes.bits c) a.simple (matches_dimensions a.dims) shape

abbrev pub asked_signs : List ArrayAtom → LispObject → List Bool
asked_signs asked o = map (is_asked o) asked

-- at arrays these are the truth values of the specifiers, marks left out
abbrev pub AreSigns : Structures → Learnt → List Specifier → List ArrayAtom → Type 0
AreSigns structures learnt atoms asked =
    (o : LispObject) → IsObject structures o → IsArray o → signs_at learnt atoms (bare o) ≡ asked_signs asked o
