-- How two types are compared at the rows of the list of both.
use Rattle.std.specs.Prelude.{ℕ, ◌≡◌, Bool, List, Option, Some, None, slice_get, IfSome}
use Rattle.std.specs.List.{AllByRecursion, Contains}
use Rattle.ls_object.specs.Universe.{LispObject, Structures, IsObject, plain}
use Rattle.ls_object.specs.Meaning.{lisp_object}
use Rattle.ls_object.specs.declared.object.Object.{Object}
use Rattle.ls_spec.specs.Specifier.{Specifier}
use Rattle.ls_spec.specs.Atoms.{leaves}
use Rattle.ls_spec.specs.Membership.{Belongs}
use Rattle.ls_spec.specs.Inclusion.{IsIncluded, IsWitness, IsUnsureWitness}
use Rattle.ls_spec.specs.Truth.{Learnt, holds}
use Rattle.ls_cells.specs.declared.rows.Row.{Row}
use Rattle.ls_cells.specs.Cells.{signs_at}
use Rattle.ls_cells.specs.Rows.{signs_of, origin_object}
use Rattle.ls_cells.specs.Signs.{at}
use Rattle.ls_decide.specs.declared.answer.Answer.{Answer}
use Rattle.ls_decide.specs.declared.answer.Answer.TheVariants.{Yes, No, Unsure, TooLarge}

-- every leaf of the specifier is one of the atoms
abbrev pub IsOver : List Specifier → Specifier → Type 0
IsOver atoms s = AllByRecursion (Contains atoms) (leaves s)

-- at each row the column tells whether the row's objects belong to the specifier
abbrev pub IsColumn : Learnt → List Specifier → List Row → List Bool → Specifier → Type 0
IsColumn learnt atoms rows column s = (o : LispObject) (j : ℕ) → slice_get (signs_of rows) j ≡ Some (signs_at learnt atoms o)
    → at column j ≡ holds learnt s o

-- some object of this plain form is in the first type and outside the second
pub record IsOutside (structures : Structures) (a b : Specifier) (o : LispObject) : Type 0 where
  pub marked : LispObject
  pub is_object : IsObject structures marked
  pub plain_form : plain marked ≡ o
  pub inside : Belongs structures a marked
  pub outside : Belongs structures b marked → ⊥

-- the place is that of a row of such an object, or there is none and the first type is included in the second
abbrev pub IsPlaceOutside : Structures → Specifier → Specifier → List Row → Option ℕ → Type 0
IsPlaceOutside structures a b rows None = IsIncluded structures a b
IsPlaceOutside structures a b rows (Some i) =
    IfSome (slice_get rows i) (λ row. IsOutside structures a b (origin_object row.origin.value))

-- the object is such a plain form, or there is none and the first type is included in the second
abbrev pub IsFound : Structures → Specifier → Specifier → Option Object → Type 0
IsFound structures a b None = IsIncluded structures a b
IsFound structures a b (Some o) = IsOutside structures a b (lisp_object o)

-- the answer is right where the cost is within the budget
abbrev pub IsRightWithin : Structures → Specifier → Specifier → Answer → Type 0
IsRightWithin structures a b TooLarge = ⊥
IsRightWithin structures a b Yes = IsIncluded structures a b
IsRightWithin structures a b (No o) = IsWitness structures a b (lisp_object o)
IsRightWithin structures a b (Unsure o) = IsUnsureWitness structures a b (lisp_object o)
