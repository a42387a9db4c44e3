-- Rows of objects with marks, from those of objects without marks of their own.
use Rattle.std.specs.Prelude.{ℕ, zero, suc, ◌≡◌, ◌<◌, Bool, true, List, [], ◌∷◌, ◌++◌, slice_get, slice_set, Some, Contains, All}
use Rattle.std.specs.List.{AllByRecursion}
use Rattle.ls_object.specs.Universe.{LispObject, Structures, IsName, IsObject}
use Rattle.ls_spec.specs.Specifier.{Specifier, satisfies}
use Rattle.ls_spec.specs.Truth.{Learnt, holds}
use Rattle.ls_cells.specs.declared.rows.Row.{Row}
use Rattle.ls_cells.specs.Rows.{origin_object, signs_of}
use Rattle.ls_cells.specs.Cells.{signs_at, bare, HasObject}

-- the characters of a predicate's name are Unicode scalar values
abbrev pub IsNamed : Specifier → Type 0
IsNamed (satisfies p) = IsName p
IsNamed _ = Unit {0}

-- the truth values of the first n atoms at the object, and of the others at the object without marks of its own
abbrev pub signs_to : ℕ → Learnt → List Specifier → LispObject → List Bool
signs_to n learnt [] o = []
signs_to zero learnt (s ∷ atoms) o = signs_at learnt (s ∷ atoms) (bare o)
signs_to (suc n) learnt (s ∷ atoms) o = holds learnt s o ∷ signs_to n learnt atoms o

-- a row of the same object, with the truth value at the place true
pub record IsMarked (place : ℕ) (row marked : Row) : Type 0 where
  pub signs : marked.signs ≡ slice_set row.signs place true
  pub object : origin_object marked.origin.value ≡ origin_object row.origin.value

-- Rows were added behind the others. Each is marked from one of these, and there is one for each of the first n of them.
pub record Marks (place n : ℕ) (old new : List Row) : Type 0 where
  pub more : List Row
  pub is : new ≡ old ++ more
  pub each : AllByRecursion (λ marked. (row : Row) × Contains old row × IsMarked place row marked) more
  pub all : (i : ℕ) (row : Row) → i < n → slice_get old i ≡ Some row
      → Contains (signs_of new) (slice_set row.signs place true)

-- each row has an object, and each object has a row that is right as far as the first n atoms see its own marks
pub record AreRowsTo (n : ℕ) (structures : Structures) (learnt : Learnt) (atoms : List Specifier) (rows : List Row)
    : Type 0 where
  pub each : All (HasObject structures learnt atoms) rows
  pub all : (o : LispObject) → IsObject structures o → Contains (signs_of rows) (signs_to n learnt atoms o)
