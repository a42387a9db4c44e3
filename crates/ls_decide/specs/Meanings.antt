-- Meanings of predicates: of which plain objects each of them is true (SATISFIES, 4.2.3).
use Rattle.std.specs.Prelude.{Bool, true, false, ◌&&◌, ◌==◌, nat_eq, if◌then◌else◌, List, [], ◌∷◌}
use Rattle.std.specs.List.{AllByRecursion}
use Rattle.std.specs.Cmp.Lexicographic.{pointwise}
use Rattle.std.specs.Ordering.{int_eq}
use Rattle.ls_object.specs.declared.symbol.Symbol.{Symbol}
use Rattle.ls_object.specs.Symbols.{same_symbol}
use Rattle.ls_object.specs.Universe.{LispObject, node, LispShape, number, character, symbol, pair, array, structure}
use Rattle.ls_object.specs.Universe.{opaque, IsName, IsPlain}
use Rattle.ls_spec.specs.Truth.{same_kind}

-- predicates, each with a plain object of which it is true; of all others it is false
abbrev pub Meaning : Type 0
Meaning = List (Symbol × LispObject)

-- it is said of plain objects, and the predicates have names
abbrev pub IsMeaning : Meaning → Type 0
IsMeaning meaning = AllByRecursion (λ e. IsName e.0 × IsPlain e.1) meaning

-- whether two truth values are one
abbrev pub same_bool : Bool → Bool → Bool
same_bool true b = b
same_bool false true = false
same_bool false false = true

-- whether two objects have one plain form
abbrev mutual
  pub same_plain : LispObject → LispObject → Bool
  same_plain (node marks shape) (node others other) = same_plain_shape shape other

  pub same_plain_shape : LispShape → LispShape → Bool
  same_plain_shape (number n d) (number m e) = int_eq n m && (d == e)
  same_plain_shape (character c) (character k) = c == k
  same_plain_shape (symbol s) (symbol t) = same_symbol s t
  same_plain_shape (pair x y) (pair car cdr) = same_plain x car && same_plain y cdr
  same_plain_shape (array c simple dims) (array k other ns) =
      (c == k) && (same_bool simple other && pointwise nat_eq dims ns)
  same_plain_shape (structure s) (structure t) = same_symbol s t
  same_plain_shape (opaque j) (opaque k) = same_kind j k
  same_plain_shape _ _ = false

-- the predicates that are true of an object
abbrev pub true_of : Meaning → LispObject → List Symbol
true_of [] o = []
true_of ((p, x) ∷ meaning) o = if same_plain x o then p ∷ true_of meaning o else true_of meaning o

-- the object of the same plain form that has at each node the predicates that are true of it as marks
abbrev mutual
  pub marked : Meaning → LispObject → LispObject
  marked meaning (node marks shape) = node (true_of meaning (node marks shape)) (marked_shape meaning shape)

  pub marked_shape : Meaning → LispShape → LispShape
  marked_shape meaning (pair car cdr) = pair (marked meaning car) (marked meaning cdr)
  marked_shape meaning (number n d) = number n d
  marked_shape meaning (character c) = character c
  marked_shape meaning (symbol s) = symbol s
  marked_shape meaning (array c simple dims) = array c simple dims
  marked_shape meaning (structure s) = structure s
  marked_shape meaning (opaque k) = opaque k

-- the marks of the top node
abbrev pub marks_of : LispObject → List Symbol
marks_of (node marks shape) = marks
