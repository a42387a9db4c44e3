-- A key of a specifier: a list of numbers that no other specifier has. No key is the front of another.
use Rattle.std.specs.Prelude.{ℕ, pos, Bool, if◌then◌else◌, int_lt, List, [], ◌∷◌, ◌++◌, Option, Some, None, length, unsigned_abs, encode_utf8_all}
use Rattle.ls_object.specs.declared.rat.Rat.{Rat}
use Rattle.ls_object.specs.declared.symbol.Symbol.{Symbol}
use Rattle.ls_spec.specs.declared.spec.Point.{Point}
use Rattle.ls_spec.specs.declared.spec.Point.TheVariants as point
use Rattle.ls_spec.specs.declared.spec.RangeKind.{RangeKind}
use Rattle.ls_spec.specs.declared.spec.RangeKind.TheVariants.{Integer, Rational}
use Rattle.ls_spec.specs.declared.spec.Bound.{Bound}
use Rattle.ls_spec.specs.declared.spec.Bound.TheVariants.{Free, Incl, Excl}
use Rattle.ls_spec.specs.declared.spec.CharClass.{CharClass}
use Rattle.ls_spec.specs.declared.spec.CharClass.TheVariants as char_class
use Rattle.ls_spec.specs.declared.spec.SymClass.{SymClass}
use Rattle.ls_spec.specs.declared.spec.SymClass.TheVariants as symbol_class
use Rattle.ls_spec.specs.declared.spec.DimPattern.{DimPattern}
use Rattle.ls_spec.specs.declared.spec.DimPattern.TheVariants as dimensions
use Rattle.ls_spec.specs.Specifier.{Specifier, all_objects, no_objects, and_of, or_of, not_of, eql_to, range_of, chars_of, symbols_of, kind_of, structure_under, any_structure, array_any, array_of, string_of, cons_of, satisfies, Specifiers, no_more, also}
use Rattle.ls_spec.specs.Truth.{kind_number}

abbrev pub bool_number : Bool → ℕ
bool_number b = if b then 1 else 0

-- a rational: whether it is below 0, the size of its numerator, and its denominator
abbrev pub rat_key : Rat → List ℕ
rat_key r = bool_number (int_lt r.num (pos 0)) ∷ unsigned_abs r.num ∷ r.den ∷ []

-- a text: its length in UTF-8, and its bytes
abbrev pub text_key : List ℕ → List ℕ
text_key cs = length (encode_utf8_all cs) ∷ encode_utf8_all cs

abbrev pub symbol_key : Symbol → List ℕ
symbol_key s = text_key s.package ++ text_key s.name

abbrev pub point_key : Point → List ℕ
point_key (point.Number r) = 0 ∷ rat_key r
point_key (point.Char c) = 1 ∷ c ∷ []
point_key (point.Sym s) = 2 ∷ symbol_key s

abbrev pub bound_key : Bound → List ℕ
bound_key Free = 0 ∷ []
bound_key (Incl r) = 1 ∷ rat_key r
bound_key (Excl r) = 2 ∷ rat_key r

abbrev pub range_kind_number : RangeKind → ℕ
range_kind_number Integer = 0
range_kind_number Rational = 1

abbrev pub char_class_number : CharClass → ℕ
char_class_number char_class.Any = 0
char_class_number char_class.Base = 1
char_class_number char_class.Standard = 2

abbrev pub symbol_class_number : SymClass → ℕ
symbol_class_number symbol_class.Any = 0
symbol_class_number symbol_class.Keyword = 1

abbrev pub place_key : Option ℕ → List ℕ
place_key None = 0 ∷ []
place_key (Some n) = 1 ∷ n ∷ []

abbrev pub places_key : List (Option ℕ) → List ℕ
places_key [] = 0 ∷ []
places_key (p ∷ ps) = 1 ∷ (place_key p ++ places_key ps)

abbrev pub dimensions_key : DimPattern → List ℕ
dimensions_key dimensions.Any = 0 ∷ []
dimensions_key (dimensions.Places ps) = 1 ∷ places_key ps

abbrev mutual
  pub key : Specifier → List ℕ
  key all_objects = 0 ∷ []
  key no_objects = 1 ∷ []
  key (and_of ss) = 2 ∷ keys ss
  key (or_of ss) = 3 ∷ keys ss
  key (not_of s) = 4 ∷ key s
  key (eql_to p) = 5 ∷ point_key p
  key (range_of k lo hi) = 6 ∷ range_kind_number k ∷ (bound_key lo ++ bound_key hi)
  key (chars_of k) = 7 ∷ char_class_number k ∷ []
  key (symbols_of k) = 8 ∷ symbol_class_number k ∷ []
  key (kind_of k) = 9 ∷ kind_number k ∷ []
  key (structure_under name) = 10 ∷ symbol_key name
  key any_structure = 11 ∷ []
  key (array_any simple dims) = 12 ∷ bool_number simple ∷ dimensions_key dims
  key (array_of e simple dims) = 13 ∷ bool_number simple ∷ (dimensions_key dims ++ key e)
  key (string_of simple dim) = 14 ∷ bool_number simple ∷ place_key dim
  key (cons_of a b) = 15 ∷ (key a ++ key b)
  key (satisfies p) = 16 ∷ symbol_key p

  pub keys : Specifiers → List ℕ
  keys no_more = 0 ∷ []
  keys (also s ss) = 1 ∷ (key s ++ keys ss)
