-- The universe of objects: all that a specifier may be asked about (4.2.2). Numbers, dimensions, ranks and
-- trees have no bound here.
use Rattle.std.specs.Prelude.{◌≡◌, ℕ, ℤ, ◌<◌, List, [], Bool, Option, unsigned_abs}
use Rattle.std.specs.List.{Contains, AllByRecursion}
use Rattle.std.specs.Char.{IsScalar}
use Rattle.std.specs.Int.{IsGcd}
use Rattle.ls_object.specs.declared.kind.Kind.{Kind}
use Rattle.ls_object.specs.declared.symbol.Symbol.{Symbol}
use Rattle.ls_object.specs.declared.table.TheConstants.{TABLE_LEN}

mutual
  -- the marks of the top node, which are the names of the predicates that are true of it, and the shape
  pub data LispObject : Type 0 where
    node : List Symbol → LispShape → LispObject

  pub data LispShape : Type 0 where
    -- the rational n/d
    number : ℤ → ℕ → LispShape
    character : ℕ → LispShape
    symbol : Symbol → LispShape
    -- a cons of a car and a cdr
    pair : LispObject → LispObject → LispShape
    -- an element code, whether the array is simple, and the dimensions
    array : ℕ → Bool → List ℕ → LispShape
    -- the name of the structure's own DEFSTRUCT
    structure : Symbol → LispShape
    opaque : Kind → LispShape

-- the structure types of a file, each with the one that it includes, if it does
abbrev pub Structures : Type 0
Structures = List (Symbol × Option Symbol)

-- every character of the package and the name is a Unicode scalar value
abbrev pub IsName : Symbol → Type 0
IsName s = AllByRecursion IsScalar s.package × AllByRecursion IsScalar s.name

-- the name is that of a structure type in the list
abbrev pub IsStructureOf : Structures → Symbol → Type 0
IsStructureOf structures s = (included : Option Symbol) × Contains structures (s, included)

-- an object of the structure list: its numbers are in lowest terms, its characters are Unicode scalar values,
-- its element codes are places of the upgrading table, and its structures have a name of the list
abbrev mutual
  pub IsObject : Structures → LispObject → Type 0
  IsObject structures (node marks shape) = AllByRecursion IsName marks × IsShape structures shape

  pub IsShape : Structures → LispShape → Type 0
  IsShape structures (number n d) = (0 < d) × IsGcd (unsigned_abs n) d 1
  IsShape structures (character c) = IsScalar c
  IsShape structures (symbol s) = IsName s
  IsShape structures (pair car cdr) = IsObject structures car × IsObject structures cdr
  IsShape structures (array code simple dims) = code < TABLE_LEN
  IsShape structures (structure s) = IsName s × IsStructureOf structures s
  IsShape structures (opaque k) = Unit {0}

-- the object with all marks taken away, at every node
abbrev mutual
  pub plain : LispObject → LispObject
  plain (node marks shape) = node [] (plain_shape shape)

  pub plain_shape : LispShape → LispShape
  plain_shape (number n d) = number n d
  plain_shape (character c) = character c
  plain_shape (symbol s) = symbol s
  plain_shape (pair car cdr) = pair (plain car) (plain cdr)
  plain_shape (array code simple dims) = array code simple dims
  plain_shape (structure s) = structure s
  plain_shape (opaque k) = opaque k

-- no node has a mark
abbrev pub IsPlain : LispObject → Type 0
IsPlain o = plain o ≡ o
