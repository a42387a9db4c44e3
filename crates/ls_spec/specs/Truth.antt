-- Membership as a truth value that computes. It asks nothing of the universe: the upgraded code of each
-- element specifier, and which structure name is under which, are handed in.
use Rattle.std.specs.Prelude.{ℕ, ℤ, pos, ◌*ℤ◌, Bool, true, false, not, ◌&&◌, ◌||◌, ◌==◌, nat_le, nat_lt, nat_eq, int_le, int_lt, List, [], ◌∷◌, Option, Some, None, codes}
use Rattle.std.specs.Bool.{Decides}
use Rattle.std.specs.Ordering.{int_eq}
use Rattle.std.specs.List.{list_any}
use Rattle.std.specs.Cmp.Lexicographic.{pointwise}
use Rattle.ls_object.specs.declared.kind.Kind.{Kind}
use Rattle.ls_object.specs.declared.kind.Kind.TheVariants.{SingleFloat, DoubleFloat, Complex, Function, CompiledFunction, HashTable, Readtable, Package, Pathname, LogicalPathname, Stream, RandomState, Condition, Restart, OtherStructure, Other}
use Rattle.ls_object.specs.declared.symbol.Symbol.{Symbol}
use Rattle.ls_object.specs.declared.table.TheConstants.{TABLE_LEN, NIL_PLACE, BASE_CHAR_PLACE, CHARACTER_PLACE}
use Rattle.ls_object.specs.Symbols.{same_symbol}
use Rattle.ls_object.specs.Universe.{LispObject, node, LispShape, number, character, symbol, pair, array, structure, opaque, Structures}
use Rattle.ls_object.specs.Inclusion.{Under}
use Rattle.ls_spec.specs.declared.spec.Point.{Point}
use Rattle.ls_spec.specs.declared.spec.Point.TheVariants as point
use Rattle.ls_spec.specs.declared.spec.RangeKind.{RangeKind}
use Rattle.ls_spec.specs.declared.spec.Bound.{Bound}
use Rattle.ls_spec.specs.declared.spec.Bound.TheVariants.{Free, Incl, Excl}
use Rattle.ls_spec.specs.declared.spec.CharClass.{CharClass}
use Rattle.ls_spec.specs.declared.spec.CharClass.TheVariants as char_class
use Rattle.ls_spec.specs.declared.spec.SymClass.{SymClass}
use Rattle.ls_spec.specs.declared.spec.SymClass.TheVariants as symbol_class
use Rattle.ls_spec.specs.declared.spec.DimPattern.{DimPattern}
use Rattle.ls_spec.specs.declared.spec.DimPattern.TheVariants as dimensions
use Rattle.ls_spec.specs.Specifier.{Specifier, all_objects, no_objects, and_of, or_of, not_of, eql_to, range_of, chars_of, symbols_of, kind_of, structure_under, any_structure, array_any, array_of, string_of, cons_of, satisfies, Specifiers, no_more, also}
use Rattle.ls_spec.specs.Membership.{is_of_range_kind, UpgradesTo}

-- the kinds in order
abbrev pub kind_number : Kind → ℕ
kind_number SingleFloat = 0
kind_number DoubleFloat = 1
kind_number Complex = 2
kind_number Function = 3
kind_number CompiledFunction = 4
kind_number HashTable = 5
kind_number Readtable = 6
kind_number Package = 7
kind_number Pathname = 8
kind_number LogicalPathname = 9
kind_number Stream = 10
kind_number RandomState = 11
kind_number Condition = 12
kind_number Restart = 13
kind_number OtherStructure = 14
kind_number Other = 15

abbrev pub same_kind : Kind → Kind → Bool
same_kind j k = kind_number j == kind_number k

abbrev pub is_point : Point → LispShape → Bool
is_point (point.Number r) (number n d) = int_eq n r.num && (d == r.den)
is_point (point.Char c) (character k) = k == c
is_point (point.Sym s) (symbol t) = same_symbol t s
is_point _ _ = false

abbrev pub is_above : Bound → ℤ → ℕ → Bool
is_above Free n d = true
is_above (Incl r) n d = int_le (r.num *ℤ pos d) (n *ℤ pos r.den)
is_above (Excl r) n d = int_lt (r.num *ℤ pos d) (n *ℤ pos r.den)

abbrev pub is_below : Bound → ℤ → ℕ → Bool
is_below Free n d = true
is_below (Incl r) n d = int_le (n *ℤ pos r.den) (r.num *ℤ pos d)
is_below (Excl r) n d = int_lt (n *ℤ pos r.den) (r.num *ℤ pos d)

abbrev pub is_in_range : RangeKind → Bound → Bound → LispShape → Bool
is_in_range k lo hi (number n d) = is_of_range_kind k d && (is_above lo n d && is_below hi n d)
is_in_range k lo hi _ = false

abbrev pub is_of_char_class : CharClass → ℕ → Bool
is_of_char_class char_class.Any c = true
is_of_char_class char_class.Base c = nat_lt c 128
is_of_char_class char_class.Standard c = (c == 10) || (nat_le 32 c && nat_le c 126)

abbrev pub is_char_in : CharClass → LispShape → Bool
is_char_in k (character c) = is_of_char_class k c
is_char_in k _ = false

abbrev pub is_of_symbol_class : SymClass → Symbol → Bool
is_of_symbol_class symbol_class.Any s = true
is_of_symbol_class symbol_class.Keyword s = pointwise nat_eq s.package (codes "KEYWORD")

abbrev pub is_symbol_in : SymClass → LispShape → Bool
is_symbol_in k (symbol s) = is_of_symbol_class k s
is_symbol_in k _ = false

abbrev pub is_of_kind : Kind → LispShape → Bool
is_of_kind k (opaque j) = same_kind j k
is_of_kind k _ = false

abbrev pub is_structure_under : (Symbol → Symbol → Bool) → Symbol → LispShape → Bool
is_structure_under under y (structure x) = under x y
is_structure_under under y _ = false

abbrev pub is_any_structure : LispShape → Bool
is_any_structure (structure x) = true
is_any_structure (opaque k) = same_kind k OtherStructure
is_any_structure _ = false

abbrev pub matches_place : Option ℕ → ℕ → Bool
matches_place None n = true
matches_place (Some m) n = n == m

abbrev pub matches_places : List (Option ℕ) → List ℕ → Bool
matches_places [] [] = true
matches_places (p ∷ ps) (n ∷ ns) = matches_place p n && matches_places ps ns
matches_places _ _ = false

abbrev pub matches_dimensions : DimPattern → List ℕ → Bool
matches_dimensions dimensions.Any ns = true
matches_dimensions (dimensions.Places ps) ns = matches_places ps ns

abbrev pub is_simple_if : Bool → Bool → Bool
is_simple_if true simple = simple
is_simple_if false simple = true

abbrev pub is_array_with : (ℕ → Bool) → Bool → (List ℕ → Bool) → LispShape → Bool
is_array_with is_asked_code asked are_asked_dimensions (array c simple dims) =
    is_asked_code c && (is_simple_if asked simple && are_asked_dimensions dims)
is_array_with is_asked_code asked are_asked_dimensions _ = false

abbrev pub is_string_code : ℕ → Bool
is_string_code c = (c == NIL_PLACE) || ((c == BASE_CHAR_PLACE) || (c == CHARACTER_PLACE))

abbrev pub is_pair_of : (LispObject → Bool) → (LispObject → Bool) → LispShape → Bool
is_pair_of is_asked_car is_asked_cdr (pair car cdr) = is_asked_car car && is_asked_cdr cdr
is_pair_of is_asked_car is_asked_cdr _ = false

-- what is known of element specifiers and of structure names
pub record Learnt : Type 0 where
  -- the upgraded code
  pub code_of : Specifier → ℕ
  -- whether the first name is under the second
  pub under : Symbol → Symbol → Bool

abbrev mutual
  -- whether the object belongs to the specifier
  pub holds : Learnt → Specifier → LispObject → Bool
  holds learnt all_objects o = true
  holds learnt no_objects o = false
  holds learnt (and_of ss) o = all_hold learnt ss o
  holds learnt (or_of ss) o = some_holds learnt ss o
  holds learnt (not_of s) o = not (holds learnt s o)
  holds learnt (eql_to p) (node marks shape) = is_point p shape
  holds learnt (range_of k lo hi) (node marks shape) = is_in_range k lo hi shape
  holds learnt (chars_of k) (node marks shape) = is_char_in k shape
  holds learnt (symbols_of k) (node marks shape) = is_symbol_in k shape
  holds learnt (kind_of k) (node marks shape) = is_of_kind k shape
  holds learnt (structure_under y) (node marks shape) = is_structure_under learnt.under y shape
  holds learnt any_structure (node marks shape) = is_any_structure shape
  holds learnt (array_any simple dims) (node marks shape) =
      is_array_with (λ c. true) simple (matches_dimensions dims) shape
  holds learnt (array_of e simple dims) (node marks shape) =
      is_array_with (λ c. c == learnt.code_of e) simple (matches_dimensions dims) shape
  holds learnt (string_of simple dim) (node marks shape) =
      is_array_with is_string_code simple (matches_places (dim ∷ [])) shape
  holds learnt (cons_of a b) (node marks shape) = is_pair_of (λ x. holds learnt a x) (λ x. holds learnt b x) shape
  holds learnt (satisfies p) (node marks shape) = list_any (same_symbol p) marks

  pub all_hold : Learnt → Specifiers → LispObject → Bool
  all_hold learnt no_more o = true
  all_hold learnt (also s ss) o = holds learnt s o && all_hold learnt ss o

  pub some_holds : Learnt → Specifiers → LispObject → Bool
  some_holds learnt no_more o = false
  some_holds learnt (also s ss) o = holds learnt s o || some_holds learnt ss o

-- all that is known of the specifier's element specifiers and structure names is right
abbrev mutual
  pub IsLearnt : Structures → Learnt → Specifier → Type 0
  IsLearnt structures learnt (and_of ss) = AreLearnt structures learnt ss
  IsLearnt structures learnt (or_of ss) = AreLearnt structures learnt ss
  IsLearnt structures learnt (not_of s) = IsLearnt structures learnt s
  IsLearnt structures learnt (cons_of a b) = IsLearnt structures learnt a × IsLearnt structures learnt b
  IsLearnt structures learnt (array_of e simple dims) = UpgradesTo structures e (learnt.code_of e)
  IsLearnt structures learnt (structure_under y) = (x : Symbol) → Decides (learnt.under x y) (Under structures x y)
  IsLearnt structures learnt _ = Unit {0}

  pub AreLearnt : Structures → Learnt → Specifiers → Type 0
  AreLearnt structures learnt no_more = Unit {0}
  AreLearnt structures learnt (also s ss) = IsLearnt structures learnt s × AreLearnt structures learnt ss

-- nothing is known of element specifiers and structure names
abbrev pub nothing_learnt : Learnt
nothing_learnt = record { code_of = λ e. TABLE_LEN; under = λ x y. false }
