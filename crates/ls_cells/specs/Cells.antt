-- The rows of a list of atoms: which truth values an object can have in them, each with an object that has them.
use Rattle.std.specs.Prelude.{◌≡◌, Bool, List, [], map, All, Contains}
use Rattle.ls_object.specs.Universe.{LispObject, node, pair, Structures, IsObject, plain}
use Rattle.ls_spec.specs.Specifier.{Specifier}
use Rattle.ls_spec.specs.Truth.{Learnt, holds}
use Rattle.ls_cells.specs.declared.rows.Row.{Row}
use Rattle.ls_cells.specs.Rows.{origin_object, signs_of}

-- whether an object belongs to each of the atoms
abbrev pub signs_at : Learnt → List Specifier → LispObject → List Bool
signs_at learnt atoms o = map (λ s. holds learnt s o) atoms

-- some object has the row's truth values: its plain form is what the row is made of
pub record HasObject (structures : Structures) (learnt : Learnt) (atoms : List Specifier) (row : Row) : Type 0 where
  pub object : LispObject
  pub is_object : IsObject structures object
  pub plain_form : plain object ≡ origin_object row.origin.value
  pub signs : row.signs ≡ signs_at learnt atoms object

-- each row has an object, and each object has its row
pub record AreRowsOf (structures : Structures) (learnt : Learnt) (atoms : List Specifier) (rows : List Row)
    : Type 0 where
  pub each : All (HasObject structures learnt atoms) rows
  pub all : (o : LispObject) → IsObject structures o → Contains (signs_of rows) (signs_at learnt atoms o)

-- the object without marks of its own; its parts keep theirs
abbrev pub bare : LispObject → LispObject
bare (node marks shape) = node [] shape

-- each row has an object, and each object without marks of its own has its row
pub record AreBareRowsOf (structures : Structures) (learnt : Learnt) (atoms : List Specifier) (rows : List Row)
    : Type 0 where
  pub each : All (HasObject structures learnt atoms) rows
  pub all : (o : LispObject) → IsObject structures o → Contains (signs_of rows) (signs_at learnt atoms (bare o))

-- rows were added for a class: none was lost, each has an object if the old ones have, and each object of the class
-- without marks of its own has its row
pub record AddsRows (structures : Structures) (learnt : Learnt) (atoms : List Specifier)
    (IsOfClass : LispObject → Type 0) (old new : List Row) : Type 0 where
  pub kept : (signs : List Bool) → Contains (signs_of old) signs → Contains (signs_of new) signs
  pub each : All (HasObject structures learnt atoms) old → All (HasObject structures learnt atoms) new
  pub all : (o : LispObject) → IsObject structures o → IsOfClass o
      → Contains (signs_of new) (signs_at learnt atoms (bare o))

-- a cons, with any marks; and any other object
abbrev pub IsCons : LispObject → Type 0
IsCons (node marks (pair car cdr)) = Unit {0}
IsCons _ = ⊥

abbrev pub IsNoCons : LispObject → Type 0
IsNoCons (node marks (pair car cdr)) = ⊥
IsNoCons _ = Unit {0}
