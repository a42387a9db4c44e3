-- What a built-in name means as an atom: what the list of the name alone means, with `*` for each argument (4.2.3).
use Rattle.std.specs.Prelude.{pos, neg_ℤ, ◌-◌, ◌^◌, [], ◌∷◌, Bool, true, false, None, codes}
use Rattle.std.proofs.Math.Dec.{lit<}
use Rattle.ls_object.specs.declared.kind.Kind.TheVariants as kind
use Rattle.ls_object.specs.Integers.{integer}
use Rattle.ls_object.specs.Symbols.{common_lisp_symbol, nil_symbol}
use Rattle.ls_tables.specs.declared.name.Builtin.{Builtin}
use Rattle.ls_tables.specs.declared.name.Builtin.TheVariants as name
use Rattle.ls_spec.specs.declared.spec.Point.TheVariants as point
use Rattle.ls_spec.specs.declared.spec.RangeKind.TheVariants.{Integer, Rational}
use Rattle.ls_spec.specs.declared.spec.Bound.TheVariants.{Free, Incl}
use Rattle.ls_spec.specs.declared.spec.CharClass.TheVariants as char_class
use Rattle.ls_spec.specs.declared.spec.SymClass.TheVariants as symbol_class
use Rattle.ls_spec.specs.declared.spec.DimPattern.TheVariants as dimensions
use Rattle.ls_spec.specs.Specifier.{Specifier, all_objects, no_objects, and_of, or_of, not_of, eql_to, range_of, chars_of, symbols_of, kind_of, any_structure, array_any, array_of, string_of, cons_of, no_more, also}

-- (or a b)
abbrev pub either_of : Specifier → Specifier → Specifier
either_of a b = or_of (also a (also b no_more))

-- (and a (not b))
abbrev pub first_without : Specifier → Specifier → Specifier
first_without a b = and_of (also a (also (not_of b) no_more))

-- (integer * *), (integer 0 *) and (rational * *)
abbrev pub integers : Specifier
integers = range_of Integer Free Free

abbrev pub naturals : Specifier
naturals = range_of Integer (Incl (integer (pos 0) (lit< tt))) Free

abbrev pub rationals : Specifier
rationals = range_of Rational Free Free

-- (integer 0 1)
abbrev pub bits : Specifier
bits = range_of Integer (Incl (integer (pos 0) (lit< tt))) (Incl (integer (pos 1) (lit< tt)))

-- (signed-byte 62), the integers from -2^61 to 2^61 - 1
abbrev pub fixnums : Specifier
fixnums =
    range_of Integer (Incl (integer (neg_ℤ (pos (2 ^ 61))) (lit< tt))) (Incl (integer (pos (2 ^ 61 - 1)) (lit< tt)))

-- the characters that are no base characters
abbrev pub extended_chars : Specifier
extended_chars = first_without (chars_of char_class.Any) (chars_of char_class.Base)

-- both float formats
abbrev pub floats : Specifier
floats = either_of (kind_of kind.SingleFloat) (kind_of kind.DoubleFloat)

-- rationals, floats and complex numbers
abbrev pub numbers : Specifier
numbers =
    or_of (also rationals (also (kind_of kind.SingleFloat) (also (kind_of kind.DoubleFloat)
    (also (kind_of kind.Complex) no_more))))

-- (cons * *)
abbrev pub conses : Specifier
conses = cons_of all_objects all_objects

-- (eql nil)
abbrev pub only_nil : Specifier
only_nil = eql_to (point.Sym nil_symbol)

-- (member t nil)
abbrev pub booleans : Specifier
booleans = either_of (eql_to (point.Sym (common_lisp_symbol (codes "T")))) only_nil

-- (or null cons)
abbrev pub lists : Specifier
lists = either_of only_nil conses

-- (array * *), or (simple-array * *)
abbrev pub arrays : Bool → Specifier
arrays simple = array_any simple dimensions.Any

-- (string *), or (simple-string *)
abbrev pub strings : Bool → Specifier
strings simple = string_of simple None

-- (vector * *)
abbrev pub vectors : Specifier
vectors = array_any false (dimensions.Places (None ∷ []))

-- vectors of any length with the element type
abbrev pub vectors_of : Specifier → Bool → Specifier
vectors_of e simple = array_of e simple (dimensions.Places (None ∷ []))

-- what a name that stands alone means; NIL for the heads of lists, which don't stand alone, and for `*`
abbrev pub expansion : Builtin → Specifier
expansion name.T = all_objects
expansion name.Nil = no_objects
expansion name.Atom = not_of conses
expansion name.List = lists
expansion name.Null = only_nil
expansion name.Boolean = booleans
expansion name.Symbol = symbols_of symbol_class.Any
expansion name.Keyword = symbols_of symbol_class.Keyword
expansion name.Character = chars_of char_class.Any
expansion name.BaseChar = chars_of char_class.Base
expansion name.StandardChar = chars_of char_class.Standard
expansion name.ExtendedChar = extended_chars
expansion name.Bit = bits
expansion name.Fixnum = fixnums
expansion name.Bignum = first_without integers fixnums
expansion name.Ratio = first_without rationals integers
expansion name.Number = numbers
expansion name.Sequence = either_of lists vectors
expansion name.StructureObject = any_structure
expansion name.HashTable = kind_of kind.HashTable
expansion name.Readtable = kind_of kind.Readtable
expansion name.Package = kind_of kind.Package
expansion name.Pathname = either_of (kind_of kind.Pathname) (kind_of kind.LogicalPathname)
expansion name.LogicalPathname = kind_of kind.LogicalPathname
expansion name.Stream = kind_of kind.Stream
expansion name.RandomState = kind_of kind.RandomState
expansion name.Condition = kind_of kind.Condition
expansion name.Restart = kind_of kind.Restart
expansion name.CompiledFunction = kind_of kind.CompiledFunction
expansion name.Integer = integers
expansion name.Rational = rationals
expansion name.SignedByte = integers
expansion name.UnsignedByte = naturals
expansion name.Cons = conses
expansion name.Array = arrays false
expansion name.SimpleArray = arrays true
expansion name.Vector = vectors
expansion name.SimpleVector = vectors_of all_objects true
expansion name.BitVector = vectors_of bits false
expansion name.SimpleBitVector = vectors_of bits true
expansion name.BaseString = vectors_of (chars_of char_class.Base) false
expansion name.SimpleBaseString = vectors_of (chars_of char_class.Base) true
expansion name.String = strings false
expansion name.SimpleString = strings true
expansion name.Float = floats
expansion name.ShortFloat = kind_of kind.SingleFloat
expansion name.SingleFloat = kind_of kind.SingleFloat
expansion name.LongFloat = kind_of kind.DoubleFloat
expansion name.DoubleFloat = kind_of kind.DoubleFloat
expansion name.Real = either_of rationals floats
expansion name.Complex = kind_of kind.Complex
expansion name.Function = either_of (kind_of kind.Function) (kind_of kind.CompiledFunction)
expansion name.And = no_objects
expansion name.Or = no_objects
expansion name.Not = no_objects
expansion name.Member = no_objects
expansion name.Eql = no_objects
expansion name.Satisfies = no_objects
expansion name.Mod = no_objects
expansion name.Values = no_objects
expansion name.Star = no_objects
