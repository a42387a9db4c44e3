-- Inclusion of one type in another (SUBTYPEP), and what shows that it fails.
use Rattle.std.specs.Prelude.{◌≡◌}
use Rattle.ls_object.specs.Universe.{LispObject, Structures, IsObject, IsPlain, plain}
use Rattle.ls_spec.specs.Specifier.{Specifier}
use Rattle.ls_spec.specs.Membership.{Belongs}
use Rattle.ls_spec.specs.Approximation.{low, high}

-- every object of the first type, with any marks, belongs to the second
abbrev pub IsIncluded : Structures → Specifier → Specifier → Type 0
IsIncluded structures a b = (o : LispObject) → IsObject structures o → Belongs structures a o → Belongs structures b o

-- a plain object that is surely in the first type and surely outside the second, whatever the predicates mean
pub record IsWitness (structures : Structures) (a b : Specifier) (o : LispObject) : Type 0 where
  pub is_object : IsObject structures o
  pub is_plain : IsPlain o
  pub inside : Belongs structures (low a) o
  pub outside : Belongs structures (high b) o → ⊥

-- there is no such object, but with some marks one of this plain form is in the first type and outside the second
pub record IsUnsureWitness (structures : Structures) (a b : Specifier) (o : LispObject) : Type 0 where
  pub no_witness : (w : LispObject) → IsWitness structures a b w → ⊥
  pub is_plain : IsPlain o
  pub marked : LispObject
  pub is_object : IsObject structures marked
  pub plain_form : plain marked ≡ o
  pub inside : Belongs structures a marked
  pub outside : Belongs structures b marked → ⊥
