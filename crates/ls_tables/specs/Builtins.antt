-- The built-in names of type specifiers (4.2.3).
use Rattle.std.specs.Prelude.{ℕ, List, [], ◌∷◌, Bool, true, false, Option, Some, None, codes, if◌then◌else◌}
use Rattle.ls_object.specs.declared.symbol.Symbol.{Symbol}
use Rattle.ls_object.specs.ObjectText.{is_text}
use Rattle.ls_tables.specs.declared.name.Builtin.{Builtin}
use Rattle.ls_tables.specs.declared.name.Builtin.TheVariants as name

-- what stands beside the name in its first row, or nothing where no row has it
abbrev pub look_up : {V : Type 0} → List ℕ → List (List ℕ × V) → Option V
look_up name [] = None
look_up name (row ∷ rows) = if is_text row.0 name then Some row.1 else look_up name rows

-- each built-in name, and the variant that means it
unfoldable pub BUILTIN_NAMES : List (List ℕ × Builtin)
BUILTIN_NAMES =
    (codes "*", name.Star) ∷
    (codes "AND", name.And) ∷
    (codes "ARRAY", name.Array) ∷
    (codes "ATOM", name.Atom) ∷
    (codes "BASE-CHAR", name.BaseChar) ∷
    (codes "BASE-STRING", name.BaseString) ∷
    (codes "BIGNUM", name.Bignum) ∷
    (codes "BIT", name.Bit) ∷
    (codes "BIT-VECTOR", name.BitVector) ∷
    (codes "BOOLEAN", name.Boolean) ∷
    (codes "CHARACTER", name.Character) ∷
    (codes "COMPILED-FUNCTION", name.CompiledFunction) ∷
    (codes "COMPLEX", name.Complex) ∷
    (codes "CONDITION", name.Condition) ∷
    (codes "CONS", name.Cons) ∷
    (codes "DOUBLE-FLOAT", name.DoubleFloat) ∷
    (codes "EQL", name.Eql) ∷
    (codes "EXTENDED-CHAR", name.ExtendedChar) ∷
    (codes "FIXNUM", name.Fixnum) ∷
    (codes "FLOAT", name.Float) ∷
    (codes "FUNCTION", name.Function) ∷
    (codes "HASH-TABLE", name.HashTable) ∷
    (codes "INTEGER", name.Integer) ∷
    (codes "KEYWORD", name.Keyword) ∷
    (codes "LIST", name.List) ∷
    (codes "LOGICAL-PATHNAME", name.LogicalPathname) ∷
    (codes "LONG-FLOAT", name.LongFloat) ∷
    (codes "MEMBER", name.Member) ∷
    (codes "MOD", name.Mod) ∷
    (codes "NIL", name.Nil) ∷
    (codes "NOT", name.Not) ∷
    (codes "NULL", name.Null) ∷
    (codes "NUMBER", name.Number) ∷
    (codes "OR", name.Or) ∷
    (codes "PACKAGE", name.Package) ∷
    (codes "PATHNAME", name.Pathname) ∷
    (codes "RANDOM-STATE", name.RandomState) ∷
    (codes "RATIO", name.Ratio) ∷
    (codes "RATIONAL", name.Rational) ∷
    (codes "READTABLE", name.Readtable) ∷
    (codes "REAL", name.Real) ∷
    (codes "RESTART", name.Restart) ∷
    (codes "SATISFIES", name.Satisfies) ∷
    (codes "SEQUENCE", name.Sequence) ∷
    (codes "SHORT-FLOAT", name.ShortFloat) ∷
    (codes "SIGNED-BYTE", name.SignedByte) ∷
    (codes "SIMPLE-ARRAY", name.SimpleArray) ∷
    (codes "SIMPLE-BASE-STRING", name.SimpleBaseString) ∷
    (codes "SIMPLE-BIT-VECTOR", name.SimpleBitVector) ∷
    (codes "SIMPLE-STRING", name.SimpleString) ∷
    (codes "SIMPLE-VECTOR", name.SimpleVector) ∷
    (codes "SINGLE-FLOAT", name.SingleFloat) ∷
    (codes "STANDARD-CHAR", name.StandardChar) ∷
    (codes "STREAM", name.Stream) ∷
    (codes "STRING", name.String) ∷
    (codes "STRUCTURE-OBJECT", name.StructureObject) ∷
    (codes "SYMBOL", name.Symbol) ∷
    (codes "T", name.T) ∷
    (codes "UNSIGNED-BYTE", name.UnsignedByte) ∷
    (codes "VALUES", name.Values) ∷
    (codes "VECTOR", name.Vector) ∷ []

-- what the symbol is as a built-in name: what stands beside its name in the list, if its package is COMMON-LISP
abbrev pub builtin_of : Symbol → Option Builtin
builtin_of s = if is_text s.package (codes "COMMON-LISP") then look_up s.name BUILTIN_NAMES else None

-- whether the name is a type specifier by itself: neither a head of lists alone nor the symbol `*`
abbrev pub stands_alone : Builtin → Bool
stands_alone name.And = false
stands_alone name.Or = false
stands_alone name.Not = false
stands_alone name.Member = false
stands_alone name.Eql = false
stands_alone name.Satisfies = false
stands_alone name.Mod = false
stands_alone name.Values = false
stands_alone name.Star = false
stands_alone name.T = true
stands_alone name.Nil = true
stands_alone name.Atom = true
stands_alone name.List = true
stands_alone name.Null = true
stands_alone name.Boolean = true
stands_alone name.Symbol = true
stands_alone name.Keyword = true
stands_alone name.Character = true
stands_alone name.BaseChar = true
stands_alone name.StandardChar = true
stands_alone name.ExtendedChar = true
stands_alone name.Bit = true
stands_alone name.Fixnum = true
stands_alone name.Bignum = true
stands_alone name.Ratio = true
stands_alone name.Number = true
stands_alone name.Sequence = true
stands_alone name.StructureObject = true
stands_alone name.HashTable = true
stands_alone name.Readtable = true
stands_alone name.Package = true
stands_alone name.Pathname = true
stands_alone name.LogicalPathname = true
stands_alone name.Stream = true
stands_alone name.RandomState = true
stands_alone name.Condition = true
stands_alone name.Restart = true
stands_alone name.CompiledFunction = true
stands_alone name.Integer = true
stands_alone name.Rational = true
stands_alone name.SignedByte = true
stands_alone name.UnsignedByte = true
stands_alone name.Cons = true
stands_alone name.Array = true
stands_alone name.SimpleArray = true
stands_alone name.Vector = true
stands_alone name.SimpleVector = true
stands_alone name.BitVector = true
stands_alone name.SimpleBitVector = true
stands_alone name.BaseString = true
stands_alone name.SimpleBaseString = true
stands_alone name.String = true
stands_alone name.SimpleString = true
stands_alone name.Float = true
stands_alone name.ShortFloat = true
stands_alone name.SingleFloat = true
stands_alone name.LongFloat = true
stands_alone name.DoubleFloat = true
stands_alone name.Real = true
stands_alone name.Complex = true
stands_alone name.Function = true
