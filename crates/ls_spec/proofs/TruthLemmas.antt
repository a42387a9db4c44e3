-- The truth value decides membership, where what was learnt is right.
use Rattle.std.proofs.Common.{ℕ, ℤ, pos, ◌≡◌, ◌<◌, ◌≤◌, ◌≤ℤ◌, ◌<ℤ◌, ◌*ℤ◌, refl, ap, sym, subst, ◌∙◌, Bool, true, false, ◌&&◌, ◌==◌, int_le, int_lt, nat_le, List, [], ◌∷◌, Option, Some, None, Decides, arith, codes, slice_get}
use Rattle.std.specs.List.{list_any, Contains}
use Rattle.std.proofs.lemmas.Bool.Decides.{Decides-and, Decides-or, Decides-not, Decides-int_eq, Decides-eqb, Decides-ltb, Decides-at}
use Rattle.std.proofs.lemmas.List.Folds.{Any-from_list_any, list_any-from_Any}
use Rattle.ls_object.specs.declared.kind.Kind.{Kind}
use Rattle.ls_object.specs.declared.kind.Kind.TheVariants.{SingleFloat, DoubleFloat, Complex, Function, CompiledFunction, HashTable, Readtable, Package, Pathname, LogicalPathname, Stream, RandomState, Condition, Restart, OtherStructure, Other}
use Rattle.ls_object.specs.declared.symbol.Symbol.{Symbol}
use Rattle.ls_object.specs.declared.table.TheConstants.{NIL_PLACE, BASE_CHAR_PLACE, CHARACTER_PLACE}
use Rattle.ls_object.specs.Symbols.{same_symbol}
use Rattle.ls_object.specs.Universe.{LispObject, node, LispShape, number, character, symbol, pair, array, structure, opaque, Structures}
use Rattle.ls_object.specs.Inclusion.{Under}
use Rattle.ls_object.proofs.SymbolLemmas.{Decides-text, Decides-symbol}
use Rattle.ls_spec.specs.declared.spec.Point.{Point}
use Rattle.ls_spec.specs.declared.spec.Point.TheVariants as point
use Rattle.ls_spec.specs.declared.spec.RangeKind.{RangeKind}
use Rattle.ls_spec.specs.declared.spec.RangeKind.TheVariants.{Integer, Rational}
use Rattle.ls_spec.specs.declared.spec.Bound.{Bound}
use Rattle.ls_spec.specs.declared.spec.Bound.TheVariants.{Free, Incl, Excl}
use Rattle.ls_spec.specs.declared.spec.CharClass.{CharClass}
use Rattle.ls_spec.specs.declared.spec.CharClass.TheVariants as char_class
use Rattle.ls_spec.specs.declared.spec.SymClass.{SymClass}
use Rattle.ls_spec.specs.declared.spec.SymClass.TheVariants as symbol_class
use Rattle.ls_spec.specs.declared.spec.DimPattern.{DimPattern}
use Rattle.ls_spec.specs.declared.spec.DimPattern.TheVariants as dimensions
use Rattle.ls_spec.specs.Specifier.{Specifier, all_objects, no_objects, and_of, or_of, not_of, eql_to, range_of, chars_of, symbols_of, kind_of, structure_under, any_structure, array_any, array_of, string_of, cons_of, satisfies, Specifiers, no_more, also}
use Rattle.ls_spec.specs.Membership.{is_of_range_kind, IsPoint, IsAbove, IsBelow, IsOfRangeKind, IsInRange, IsOfCharClass, IsCharIn, IsOfSymbolClass, IsSymbolIn, IsOfKind, IsStructureUnder, IsAnyStructure, MatchesPlace, MatchesPlaces, MatchesDimensions, IsSimpleIf, IsArrayWith, IsStringCode, IsPairOf, IsFirstHolding, Belongs, BelongsToAll, BelongsToSome, UpgradesTo}
use Rattle.ls_spec.specs.SelfContained.{IsSelfContained, AreSelfContained, IsFlat}
use Rattle.ls_spec.specs.Truth.{kind_number, same_kind, is_point, is_above, is_below, is_in_range, is_of_char_class, is_char_in, is_of_symbol_class, is_symbol_in, is_of_kind, is_structure_under, is_any_structure, matches_place, matches_places, matches_dimensions, is_simple_if, is_array_with, is_string_code, is_pair_of, Learnt, holds, all_hold, some_holds, IsLearnt, AreLearnt, nothing_learnt}

Decides-true : Decides true (Unit {0})
Decides-true = (λ _. tt, λ _. refl)

Decides-false : Decides false ⊥
Decides-false = (λ e. cc, λ h. absurd h)

pub Decides-int_le : (a b : ℤ) → Decides (int_le a b) (a ≤ℤ b)
Decides-int_le a b = (λ e. grind arith, λ l. grind arith)

pub Decides-int_lt : (a b : ℤ) → Decides (int_lt a b) (a <ℤ b)
Decides-int_lt a b = (λ e. grind arith, λ l. grind arith)

Decides-le : (a b : ℕ) → Decides (nat_le a b) (a ≤ b)
Decides-le a b = (λ e. grind arith, λ l. grind arith)

abbrev kinds : List Kind
kinds =
    SingleFloat ∷ DoubleFloat ∷ Complex ∷ Function ∷ CompiledFunction ∷ HashTable ∷ Readtable ∷ Package ∷ Pathname ∷ LogicalPathname ∷ Stream ∷ RandomState ∷ Condition ∷ Restart ∷ OtherStructure ∷ Other ∷ []

kind_at_number : (k : Kind) → slice_get kinds (kind_number k) ≡ Some k
kind_at_number SingleFloat = refl
kind_at_number DoubleFloat = refl
kind_at_number Complex = refl
kind_at_number Function = refl
kind_at_number CompiledFunction = refl
kind_at_number HashTable = refl
kind_at_number Readtable = refl
kind_at_number Package = refl
kind_at_number Pathname = refl
kind_at_number LogicalPathname = refl
kind_at_number Stream = refl
kind_at_number RandomState = refl
kind_at_number Condition = refl
kind_at_number Restart = refl
kind_at_number OtherStructure = refl
kind_at_number Other = refl

some_same : {X : Type 0} (x y : X) → Some x ≡ Some y → x ≡ y
some_same x y e = cc

-- a kind is determined by its number
pub same_kind_number : (j k : Kind) → kind_number j ≡ kind_number k → j ≡ k
same_kind_number j k e = some_same j k (sym (kind_at_number j) ∙ ap (slice_get kinds) e ∙ kind_at_number k)

pub Decides-kind : (j k : Kind) → Decides (same_kind j k) (j ≡ k)
Decides-kind j k = (
  λ e. same_kind_number j k ((Decides-eqb (kind_number j) (kind_number k)).0 e),
  λ e. (Decides-eqb (kind_number j) (kind_number k)).1 (ap kind_number e),
)

Decides-point : (p : Point) (shape : LispShape) → Decides (is_point p shape) (IsPoint p shape)
Decides-point (point.Number r) (number n d) = Decides-and _ _ (Decides-int_eq n r.num) (Decides-eqb d r.den)
Decides-point (point.Char c) (character k) = Decides-eqb k c
Decides-point (point.Sym s) (symbol t) = Decides-symbol t s
Decides-point _ _ = Decides-false

Decides-above : (b : Bound) (n : ℤ) (d : ℕ) → Decides (is_above b n d) (IsAbove b n d)
Decides-above Free n d = Decides-true
Decides-above (Incl r) n d = Decides-int_le (r.num *ℤ pos d) (n *ℤ pos r.den)
Decides-above (Excl r) n d = Decides-int_lt (r.num *ℤ pos d) (n *ℤ pos r.den)

Decides-below : (b : Bound) (n : ℤ) (d : ℕ) → Decides (is_below b n d) (IsBelow b n d)
Decides-below Free n d = Decides-true
Decides-below (Incl r) n d = Decides-int_le (n *ℤ pos r.den) (r.num *ℤ pos d)
Decides-below (Excl r) n d = Decides-int_lt (n *ℤ pos r.den) (r.num *ℤ pos d)

Decides-range_kind : (k : RangeKind) (d : ℕ) → Decides (is_of_range_kind k d) (IsOfRangeKind k d)
Decides-range_kind Integer d = Decides-eqb d 1
Decides-range_kind Rational d = Decides-true

-- three tests, of which the last two are joined first
Decides-three : {P Q R : Type 0} (x y z : Bool) → Decides x P → Decides y Q → Decides z R → Decides (x && (y && z)) (P × Q × R)
Decides-three x y z p q r =
    let both = Decides-and x (y && z) p (Decides-and y z q r) in
    (λ e. let h = both.0 e in (h.0, h.1.0, h.1.1), λ h. both.1 (h.0, (h.1, h.2)))

Decides-range : (k : RangeKind) (lo hi : Bound) (shape : LispShape) → Decides (is_in_range k lo hi shape) (IsInRange k lo hi shape)
Decides-range k lo hi (number n d) = Decides-three _ _ _ (Decides-range_kind k d) (Decides-above lo n d) (Decides-below hi n d)
Decides-range k lo hi _ = Decides-false

Decides-char_class : (k : CharClass) (c : ℕ) → Decides (is_of_char_class k c) (IsOfCharClass k c)
Decides-char_class char_class.Any c = Decides-true
Decides-char_class char_class.Base c = Decides-ltb c 128
Decides-char_class char_class.Standard c = Decides-or _ _ (Decides-eqb c 10) (Decides-and _ _ (Decides-le 32 c) (Decides-le c 126))

Decides-char : (k : CharClass) (shape : LispShape) → Decides (is_char_in k shape) (IsCharIn k shape)
Decides-char k (character c) = Decides-char_class k c
Decides-char k _ = Decides-false

Decides-symbol_class : (k : SymClass) (s : Symbol) → Decides (is_of_symbol_class k s) (IsOfSymbolClass k s)
Decides-symbol_class symbol_class.Any s = Decides-true
Decides-symbol_class symbol_class.Keyword s = Decides-text s.package (codes "KEYWORD")

Decides-symbol_in : (k : SymClass) (shape : LispShape) → Decides (is_symbol_in k shape) (IsSymbolIn k shape)
Decides-symbol_in k (symbol s) = Decides-symbol_class k s
Decides-symbol_in k _ = Decides-false

Decides-of_kind : (k : Kind) (shape : LispShape) → Decides (is_of_kind k shape) (IsOfKind k shape)
Decides-of_kind k (opaque j) = Decides-kind j k
Decides-of_kind k _ = Decides-false

Decides-structure : (structures : Structures) (under : Symbol → Symbol → Bool) (y : Symbol) → ((x : Symbol) → Decides (under x y) (Under structures x y)) → (shape : LispShape) → Decides (is_structure_under under y shape) (IsStructureUnder structures y shape)
Decides-structure structures under y right (structure x) = right x
Decides-structure structures under y right _ = Decides-false

Decides-any_structure : (shape : LispShape) → Decides (is_any_structure shape) (IsAnyStructure shape)
Decides-any_structure (structure x) = Decides-true
Decides-any_structure (opaque k) = Decides-kind k OtherStructure
Decides-any_structure _ = Decides-false

Decides-place : (p : Option ℕ) (n : ℕ) → Decides (matches_place p n) (MatchesPlace p n)
Decides-place None n = Decides-true
Decides-place (Some m) n = Decides-eqb n m

Decides-places : (ps : List (Option ℕ)) (ns : List ℕ) → Decides (matches_places ps ns) (MatchesPlaces ps ns)
Decides-places [] [] = Decides-true
Decides-places [] (n ∷ ns) = Decides-false
Decides-places (p ∷ ps) (n ∷ ns) = Decides-and _ _ (Decides-place p n) (Decides-places ps ns)
Decides-places (p ∷ ps) [] = Decides-false

Decides-dimensions : (dims : DimPattern) (ns : List ℕ) → Decides (matches_dimensions dims ns) (MatchesDimensions dims ns)
Decides-dimensions dimensions.Any ns = Decides-true
Decides-dimensions (dimensions.Places ps) ns = Decides-places ps ns

Decides-simple : (asked simple : Bool) → Decides (is_simple_if asked simple) (IsSimpleIf asked simple)
Decides-simple true simple = (λ e. e, λ e. e)
Decides-simple false simple = Decides-true

Decides-array : (p : ℕ → Bool) (P : ℕ → Type 0) (asked : Bool) (q : List ℕ → Bool) (Q : List ℕ → Type 0) → ((c : ℕ) → Decides (p c) (P c)) → ((ns : List ℕ) → Decides (q ns) (Q ns)) → (shape : LispShape) → Decides (is_array_with p asked q shape) (IsArrayWith P asked Q shape)
Decides-array p P asked q Q d e (array c simple dims) = Decides-three _ _ _ (d c) (Decides-simple asked simple) (e dims)
Decides-array p P asked q Q d e _ = Decides-false

Decides-string_code : (c : ℕ) → Decides (is_string_code c) (IsStringCode c)
Decides-string_code c = Decides-or _ _ (Decides-eqb c NIL_PLACE) (Decides-or _ _ (Decides-eqb c BASE_CHAR_PLACE) (Decides-eqb c CHARACTER_PLACE))

Decides-pair : (p q : LispObject → Bool) (P Q : LispObject → Type 0) → ((o : LispObject) → Decides (p o) (P o)) → ((o : LispObject) → Decides (q o) (Q o)) → (shape : LispShape) → Decides (is_pair_of p q shape) (IsPairOf P Q shape)
Decides-pair p q P Q d e (pair car cdr) = Decides-and _ _ (d car) (e cdr)
Decides-pair p q P Q d e _ = Decides-false

Decides-mark : (p : Symbol) (marks : List Symbol) → Decides (list_any (same_symbol p) marks) (Contains marks p)
Decides-mark p marks = (
  λ e. let found = Any-from_list_any (same_symbol p) marks e in
      subst (Contains marks) (sym ((Decides-symbol p found.1).0 found.4)) (found.0, found.2, found.3),
  λ h. list_any-from_Any (same_symbol p) marks (h.0, p, h.1, h.2, (Decides-symbol p p).1 refl),
)

-- a type has one upgraded code
pub one_code : (structures : Structures) (P : LispObject → Type 0) (c d : ℕ) → IsFirstHolding structures P c → IsFirstHolding structures P d → c ≡ d
one_code structures P c d h k =
    let not_below : c < d → ⊥ = λ l. k.first c l h.holds in
    let not_above : d < c → ⊥ = λ l. h.first d l k.holds in
    omega arith

Decides-code : (structures : Structures) (e : Specifier) (c : ℕ) → UpgradesTo structures e c → (d : ℕ) → Decides (d == c) (UpgradesTo structures e d)
Decides-code structures e c h d =
    (λ t. subst (UpgradesTo structures e) (sym ((Decides-eqb d c).0 t)) h, λ k. (Decides-eqb d c).1 (one_code structures (Belongs structures e) d c k h))

-- a flat shape is of no structure type, no array and no cons
Decides-under-flat : (structures : Structures) (y : Symbol) (shape : LispShape) → IsFlat shape → Decides (is_structure_under nothing_learnt.under y shape) (IsStructureUnder structures y shape)
Decides-under-flat structures y (structure x) h = absurd h
Decides-under-flat structures y _ h = Decides-false

Decides-array-flat : (structures : Structures) (e : Specifier) (simple : Bool) (dims : DimPattern) (shape : LispShape) → IsFlat shape
    → Decides (is_array_with (λ c. c == nothing_learnt.code_of e) simple (matches_dimensions dims) shape) (IsArrayWith (IsFirstHolding structures (λ x. Belongs structures e x)) simple (MatchesDimensions dims) shape)
Decides-array-flat structures e simple dims (array c is_simple ns) h = absurd h
Decides-array-flat structures e simple dims _ h = Decides-false

Decides-cons-flat : (structures : Structures) (a b : Specifier) (shape : LispShape) → IsFlat shape
    → Decides (is_pair_of (λ x. holds nothing_learnt a x) (λ x. holds nothing_learnt b x) shape) (IsPairOf (λ x. Belongs structures a x) (λ x. Belongs structures b x) shape)
Decides-cons-flat structures a b (pair x y) h = absurd h
Decides-cons-flat structures a b _ h = Decides-false

mutual
  pub holds-Decides : (structures : Structures) (learnt : Learnt) (s : Specifier) (o : LispObject) → IsLearnt structures learnt s → Decides (holds learnt s o) (Belongs structures s o)
  holds-Decides structures learnt all_objects o h = Decides-true
  holds-Decides structures learnt no_objects o h = Decides-false
  holds-Decides structures learnt (and_of ss) o h = all_hold-Decides structures learnt ss o h
  holds-Decides structures learnt (or_of ss) o h = some_holds-Decides structures learnt ss o h
  holds-Decides structures learnt (not_of s) o h = Decides-not _ (holds-Decides structures learnt s o h)
  holds-Decides structures learnt (eql_to p) (node marks shape) h = Decides-point p shape
  holds-Decides structures learnt (range_of k lo hi) (node marks shape) h = Decides-range k lo hi shape
  holds-Decides structures learnt (chars_of k) (node marks shape) h = Decides-char k shape
  holds-Decides structures learnt (symbols_of k) (node marks shape) h = Decides-symbol_in k shape
  holds-Decides structures learnt (kind_of k) (node marks shape) h = Decides-of_kind k shape
  holds-Decides structures learnt (structure_under y) (node marks shape) h = Decides-structure structures learnt.under y h shape
  holds-Decides structures learnt any_structure (node marks shape) h = Decides-any_structure shape
  holds-Decides structures learnt (array_any simple dims) (node marks shape) h = Decides-array _ _ simple _ _ (λ c. Decides-true) (Decides-dimensions dims) shape
  holds-Decides structures learnt (array_of e simple dims) (node marks shape) h = Decides-array _ _ simple _ _ (Decides-code structures e (learnt.code_of e) h) (Decides-dimensions dims) shape
  holds-Decides structures learnt (string_of simple dim) (node marks shape) h = Decides-array _ _ simple _ _ Decides-string_code (Decides-places (dim ∷ [])) shape
  holds-Decides structures learnt (cons_of a b) (node marks shape) h = Decides-pair _ _ _ _ (λ x. holds-Decides structures learnt a x h.0) (λ x. holds-Decides structures learnt b x h.1) shape
  holds-Decides structures learnt (satisfies p) (node marks shape) h = Decides-mark p marks

  all_hold-Decides : (structures : Structures) (learnt : Learnt) (ss : Specifiers) (o : LispObject) → AreLearnt structures learnt ss → Decides (all_hold learnt ss o) (BelongsToAll structures ss o)
  all_hold-Decides structures learnt no_more o h = Decides-true
  all_hold-Decides structures learnt (also s ss) o h = Decides-and _ _ (holds-Decides structures learnt s o h.0) (all_hold-Decides structures learnt ss o h.1)

  some_holds-Decides : (structures : Structures) (learnt : Learnt) (ss : Specifiers) (o : LispObject) → AreLearnt structures learnt ss → Decides (some_holds learnt ss o) (BelongsToSome structures ss o)
  some_holds-Decides structures learnt no_more o h = Decides-false
  some_holds-Decides structures learnt (also s ss) o h = Decides-or _ _ (holds-Decides structures learnt s o h.0) (some_holds-Decides structures learnt ss o h.1)

mutual
  -- a specifier without structure names and element types needs nothing to be learnt
  pub IsLearnt-self_contained : (structures : Structures) (s : Specifier) → IsSelfContained s → IsLearnt structures nothing_learnt s
  IsLearnt-self_contained structures (and_of ss) h = AreLearnt-self_contained structures ss h
  IsLearnt-self_contained structures (or_of ss) h = AreLearnt-self_contained structures ss h
  IsLearnt-self_contained structures (not_of s) h = IsLearnt-self_contained structures s h
  IsLearnt-self_contained structures (cons_of a b) h = (IsLearnt-self_contained structures a h.0, IsLearnt-self_contained structures b h.1)
  IsLearnt-self_contained structures (array_of e simple dims) h = absurd h
  IsLearnt-self_contained structures (structure_under y) h = absurd h
  IsLearnt-self_contained structures _ h = tt

  AreLearnt-self_contained : (structures : Structures) (ss : Specifiers) → AreSelfContained ss → AreLearnt structures nothing_learnt ss
  AreLearnt-self_contained structures no_more h = tt
  AreLearnt-self_contained structures (also s ss) h = (IsLearnt-self_contained structures s h.0, AreLearnt-self_contained structures ss h.1)

-- the truth value of one object in a specifier that is self-contained decides membership
pub Decides-self_contained : (s : Specifier) (o : LispObject) (r : Bool) → r ≡ holds nothing_learnt s o → IsSelfContained s → (structures : Structures) → Decides r (Belongs structures s o)
Decides-self_contained s o r e h structures = Decides-at r _ e (holds-Decides structures nothing_learnt s o (IsLearnt-self_contained structures s h))

mutual
  -- of a number, a character, a symbol or an opaque object nothing needs to be learnt
  pub Decides-flat : (structures : Structures) (s : Specifier) (marks : List Symbol) (shape : LispShape) → IsFlat shape → Decides (holds nothing_learnt s (node marks shape)) (Belongs structures s (node marks shape))
  Decides-flat structures (and_of ss) marks shape h = all-Decides-flat structures ss marks shape h
  Decides-flat structures (or_of ss) marks shape h = some-Decides-flat structures ss marks shape h
  Decides-flat structures (not_of s) marks shape h = Decides-not _ (Decides-flat structures s marks shape h)
  Decides-flat structures (structure_under y) marks shape h = Decides-under-flat structures y shape h
  Decides-flat structures (array_of e simple dims) marks shape h = Decides-array-flat structures e simple dims shape h
  Decides-flat structures (cons_of a b) marks shape h = Decides-cons-flat structures a b shape h
  Decides-flat structures all_objects marks shape h = Decides-true
  Decides-flat structures no_objects marks shape h = Decides-false
  Decides-flat structures s marks shape h = holds-Decides structures nothing_learnt s (node marks shape) tt

  all-Decides-flat : (structures : Structures) (ss : Specifiers) (marks : List Symbol) (shape : LispShape) → IsFlat shape → Decides (all_hold nothing_learnt ss (node marks shape)) (BelongsToAll structures ss (node marks shape))
  all-Decides-flat structures no_more marks shape h = Decides-true
  all-Decides-flat structures (also s ss) marks shape h = Decides-and _ _ (Decides-flat structures s marks shape h) (all-Decides-flat structures ss marks shape h)

  some-Decides-flat : (structures : Structures) (ss : Specifiers) (marks : List Symbol) (shape : LispShape) → IsFlat shape → Decides (some_holds nothing_learnt ss (node marks shape)) (BelongsToSome structures ss (node marks shape))
  some-Decides-flat structures no_more marks shape h = Decides-false
  some-Decides-flat structures (also s ss) marks shape h = Decides-or _ _ (Decides-flat structures s marks shape h) (some-Decides-flat structures ss marks shape h)

-- the truth value of one such object
pub Decides-unmarked : (s : Specifier) (shape : LispShape) (r : Bool) → r ≡ holds nothing_learnt s (node [] shape) → (structures : Structures) → IsFlat shape → Decides r (Belongs structures s (node [] shape))
Decides-unmarked s shape r e structures h = Decides-at r _ e (Decides-flat structures s [] shape h)
