-- Which objects belong to a specifier (4.2.3 and the entries of the type specifiers).
use Rattle.std.specs.Prelude.{◌≡◌, ℕ, ℤ, pos, ◌<◌, ◌≤◌, ◌*ℤ◌, ◌<ℤ◌, ◌≤ℤ◌, ◌⊎◌, List, [], ◌∷◌, ◌==◌, Bool, true, false, Option, Some, None, codes}
use Rattle.std.specs.List.{Contains}
use Rattle.ls_object.specs.declared.kind.Kind.{Kind}
use Rattle.ls_object.specs.declared.kind.Kind.TheVariants.{OtherStructure}
use Rattle.ls_object.specs.declared.symbol.Symbol.{Symbol}
use Rattle.ls_object.specs.declared.table.TheConstants.{NIL_PLACE, BASE_CHAR_PLACE, CHARACTER_PLACE}
use Rattle.ls_object.specs.declared.table.TheConstants.{TABLE_LEN}
use Rattle.ls_object.specs.Universe.{LispObject, node, LispShape, number, character, symbol, pair, array, structure, opaque, Structures, IsObject}
use Rattle.ls_object.specs.Inclusion.{Under}
use Rattle.ls_object.specs.Table.{Holds}
use Rattle.ls_spec.specs.declared.spec.Point.{Point}
use Rattle.ls_spec.specs.declared.spec.Point.TheVariants as point
use Rattle.ls_spec.specs.declared.spec.RangeKind.{RangeKind}
use Rattle.ls_spec.specs.declared.spec.RangeKind.TheVariants.{Integer, Rational}
use Rattle.ls_spec.specs.declared.spec.Bound.{Bound}
use Rattle.ls_spec.specs.declared.spec.Bound.TheVariants.{Free, Incl, Excl}
use Rattle.ls_spec.specs.declared.spec.CharClass.{CharClass}
use Rattle.ls_spec.specs.declared.spec.CharClass.TheVariants as char_class
use Rattle.ls_spec.specs.declared.spec.SymClass.{SymClass}
use Rattle.ls_spec.specs.declared.spec.SymClass.TheVariants as symbol_class
use Rattle.ls_spec.specs.declared.spec.DimPattern.{DimPattern}
use Rattle.ls_spec.specs.declared.spec.DimPattern.TheVariants as dimensions
use Rattle.ls_spec.specs.Specifier.{Specifier, all_objects, no_objects, and_of, or_of, not_of, eql_to, range_of, chars_of, symbols_of, kind_of, structure_under, any_structure, array_any, array_of, string_of, cons_of, satisfies, Specifiers, no_more, also}

-- EQL: the number, the character or the symbol
abbrev pub IsPoint : Point → LispShape → Type 0
IsPoint (point.Number r) (number n d) = (n ≡ r.num) × (d ≡ r.den)
IsPoint (point.Char c) (character k) = k ≡ c
IsPoint (point.Sym s) (symbol t) = t ≡ s
IsPoint _ _ = ⊥

-- the rational n/d is above a lower bound
abbrev pub IsAbove : Bound → ℤ → ℕ → Type 0
IsAbove Free n d = Unit {0}
IsAbove (Incl r) n d = (r.num *ℤ pos d) ≤ℤ (n *ℤ pos r.den)
IsAbove (Excl r) n d = (r.num *ℤ pos d) <ℤ (n *ℤ pos r.den)

-- it is below an upper bound
abbrev pub IsBelow : Bound → ℤ → ℕ → Type 0
IsBelow Free n d = Unit {0}
IsBelow (Incl r) n d = (n *ℤ pos r.den) ≤ℤ (r.num *ℤ pos d)
IsBelow (Excl r) n d = (n *ℤ pos r.den) <ℤ (r.num *ℤ pos d)

-- INTEGER asks for an integer, RATIONAL for any rational
abbrev pub IsOfRangeKind : RangeKind → ℕ → Type 0
IsOfRangeKind Integer d = d ≡ 1
IsOfRangeKind Rational d = Unit {0}

-- the same as a truth value, for what stands in bounds
abbrev pub is_of_range_kind : RangeKind → ℕ → Bool
is_of_range_kind Integer d = d == 1
is_of_range_kind Rational d = true

-- INTEGER and RATIONAL with bounds
abbrev pub IsInRange : RangeKind → Bound → Bound → LispShape → Type 0
IsInRange k lo hi (number n d) = IsOfRangeKind k d × IsAbove lo n d × IsBelow hi n d
IsInRange k lo hi _ = ⊥

-- CHARACTER, BASE-CHAR and STANDARD-CHAR
abbrev pub IsOfCharClass : CharClass → ℕ → Type 0
IsOfCharClass char_class.Any c = Unit {0}
IsOfCharClass char_class.Base c = c < 128
IsOfCharClass char_class.Standard c = (c ≡ 10) ⊎ ((32 ≤ c) × (c ≤ 126))

abbrev pub IsCharIn : CharClass → LispShape → Type 0
IsCharIn k (character c) = IsOfCharClass k c
IsCharIn k _ = ⊥

-- SYMBOL and KEYWORD
abbrev pub IsOfSymbolClass : SymClass → Symbol → Type 0
IsOfSymbolClass symbol_class.Any s = Unit {0}
IsOfSymbolClass symbol_class.Keyword s = s.package ≡ codes "KEYWORD"

abbrev pub IsSymbolIn : SymClass → LispShape → Type 0
IsSymbolIn k (symbol s) = IsOfSymbolClass k s
IsSymbolIn k _ = ⊥

-- an opaque object of the kind
abbrev pub IsOfKind : Kind → LispShape → Type 0
IsOfKind k (opaque j) = j ≡ k
IsOfKind k _ = ⊥

-- a structure of the type, or of one that includes it directly or through others
abbrev pub IsStructureUnder : Structures → Symbol → LispShape → Type 0
IsStructureUnder structures y (structure x) = Under structures x y
IsStructureUnder structures y _ = ⊥

-- STRUCTURE-OBJECT: also the structures of types that the file doesn't name
abbrev pub IsAnyStructure : LispShape → Type 0
IsAnyStructure (structure x) = Unit {0}
IsAnyStructure (opaque k) = k ≡ OtherStructure
IsAnyStructure _ = ⊥

-- a dimension is as asked at its place: `*` asks for nothing
abbrev pub MatchesPlace : Option ℕ → ℕ → Type 0
MatchesPlace None n = Unit {0}
MatchesPlace (Some m) n = n ≡ m

-- the dimensions match place by place
abbrev pub MatchesPlaces : List (Option ℕ) → List ℕ → Type 0
MatchesPlaces [] [] = Unit {0}
MatchesPlaces (p ∷ ps) (n ∷ ns) = MatchesPlace p n × MatchesPlaces ps ns
MatchesPlaces _ _ = ⊥

abbrev pub MatchesDimensions : DimPattern → List ℕ → Type 0
MatchesDimensions dimensions.Any ns = Unit {0}
MatchesDimensions (dimensions.Places ps) ns = MatchesPlaces ps ns

-- SIMPLE-ARRAY asks for a simple array, ARRAY for any
abbrev pub IsSimpleIf : Bool → Bool → Type 0
IsSimpleIf true simple = simple ≡ true
IsSimpleIf false simple = Unit {0}

-- an array whose element code and dimensions are as asked
abbrev pub IsArrayWith : (ℕ → Type 0) → Bool → (List ℕ → Type 0) → LispShape → Type 0
IsArrayWith IsAskedCode asked AreAskedDimensions (array c simple dims) =
    IsAskedCode c × IsSimpleIf asked simple × AreAskedDimensions dims
IsArrayWith IsAskedCode asked AreAskedDimensions _ = ⊥

-- the element codes of strings: NIL, BASE-CHAR and CHARACTER
abbrev pub IsStringCode : ℕ → Type 0
IsStringCode c = (c ≡ NIL_PLACE) ⊎ (c ≡ BASE_CHAR_PLACE) ⊎ (c ≡ CHARACTER_PLACE)

-- a cons whose car and cdr are as asked
abbrev pub IsPairOf : (LispObject → Type 0) → (LispObject → Type 0) → LispShape → Type 0
IsPairOf IsAskedCar IsAskedCdr (pair car cdr) = IsAskedCar car × IsAskedCdr cdr
IsPairOf IsAskedCar IsAskedCdr _ = ⊥

-- The place `c` of the upgrading table has the first entry that holds every object of a type (15.1.2.1).
-- The objects range over the whole universe.
pub record IsFirstHolding (structures : Structures) (IsOfType : LispObject → Type 0) (c : ℕ) : Type 0 where
  pub in_table : c < TABLE_LEN
  pub holds : (o : LispObject) → IsObject structures o → IsOfType o → Holds c o
  pub first : (b : ℕ) → b < c → ((o : LispObject) → IsObject structures o → IsOfType o → Holds b o) → ⊥

abbrev mutual
  -- the object belongs to the specifier
  pub Belongs : Structures → Specifier → LispObject → Type 0
  Belongs structures all_objects o = Unit {0}
  Belongs structures no_objects o = ⊥
  Belongs structures (and_of ss) o = BelongsToAll structures ss o
  Belongs structures (or_of ss) o = BelongsToSome structures ss o
  Belongs structures (not_of s) o = Belongs structures s o → ⊥
  Belongs structures (eql_to p) (node marks shape) = IsPoint p shape
  Belongs structures (range_of k lo hi) (node marks shape) = IsInRange k lo hi shape
  Belongs structures (chars_of k) (node marks shape) = IsCharIn k shape
  Belongs structures (symbols_of k) (node marks shape) = IsSymbolIn k shape
  Belongs structures (kind_of k) (node marks shape) = IsOfKind k shape
  Belongs structures (structure_under y) (node marks shape) = IsStructureUnder structures y shape
  Belongs structures any_structure (node marks shape) = IsAnyStructure shape
  Belongs structures (array_any simple dims) (node marks shape) =
      IsArrayWith (λ c. Unit {0}) simple (MatchesDimensions dims) shape
  Belongs structures (array_of e simple dims) (node marks shape) =
      IsArrayWith (IsFirstHolding structures (λ x. Belongs structures e x)) simple (MatchesDimensions dims) shape
  Belongs structures (string_of simple dim) (node marks shape) =
      IsArrayWith IsStringCode simple (MatchesPlaces (dim ∷ [])) shape
  Belongs structures (cons_of a b) (node marks shape) =
      IsPairOf (λ x. Belongs structures a x) (λ x. Belongs structures b x) shape
  Belongs structures (satisfies p) (node marks shape) = Contains marks p

  pub BelongsToAll : Structures → Specifiers → LispObject → Type 0
  BelongsToAll structures no_more o = Unit {0}
  BelongsToAll structures (also s ss) o = Belongs structures s o × BelongsToAll structures ss o

  pub BelongsToSome : Structures → Specifiers → LispObject → Type 0
  BelongsToSome structures no_more o = ⊥
  BelongsToSome structures (also s ss) o = Belongs structures s o ⊎ BelongsToSome structures ss o

-- `c` is the upgraded element code of the specifier
abbrev pub UpgradesTo : Structures → Specifier → ℕ → Type 0
UpgradesTo structures e c = IsFirstHolding structures (Belongs structures e) c
