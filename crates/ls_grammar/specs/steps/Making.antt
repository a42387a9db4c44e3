-- What the code makes of a quoted datum.
use Rattle.std.specs.Prelude.{ℕ, ◌≡◌, ◌<◌, ◌≤◌, Result, Ok, Err}
use Rattle.ls_object.specs.declared.object.Object.{Object}
use Rattle.ls_object.specs.Universe.{LispObject, Structures, IsObject, IsPlain}
use Rattle.ls_object.specs.Meaning.{lisp_object}
use Rattle.ls_grammar.specs.declared.literal.Made.{Made}
use Rattle.ls_grammar.specs.declared.literal.Made.TheVariants as made
use Rattle.ls_grammar.specs.declared.literal.ObjectRefusal.{ObjectRefusal}
use Rattle.ls_grammar.specs.Literals.{Value, depth, IsReasonIn}

-- an object without marks, whatever the structure types are
pub record IsSound (o : LispObject) : Type 0 where
  pub plain : IsPlain o
  pub object : (structures : Structures) → IsObject structures o

-- the object is so deep, and no deeper than it may be
pub record IsDeep (o : LispObject) (n : ℕ) : Type 0 where
  pub same : n ≡ depth o
  pub few : n ≤ 256

-- what was made is the value
abbrev pub IsMade : Value → Made → Type 0
IsMade v (made.Object o n) = (v ≡ Ok (lisp_object o)) × IsSound (lisp_object o) × IsDeep (lisp_object o) n
IsMade v made.TooDeep = (o : LispObject) × (v ≡ Ok o) × (256 < depth o)

-- the same, or what is wrong in the value, or want of memory
abbrev pub Makes : Value → Result Made ObjectRefusal → Type 0
Makes v (Ok m) = IsMade v m
Makes v (Err x) = IsReasonIn v x

-- what is answered for a whole datum is its object or its refusal, or want of memory
abbrev pub Tells : Value → Result Object ObjectRefusal → Type 0
Tells v (Ok o) = (v ≡ Ok (lisp_object o)) × IsSound (lisp_object o)
Tells v (Err x) = IsReasonIn v x
