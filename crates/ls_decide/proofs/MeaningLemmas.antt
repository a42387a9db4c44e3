-- What objects have as marks under a meaning of the predicates.
use Rattle.std.proofs.Common.{◌≡◌, ℕ, zero, suc, ◌↔◌, refl, sym, ap, subst, ◌∙◌, Bool, true, false, List, [], ◌∷◌, if◌then◌else◌, Decides, arith, ◌⊎◌, inl, inr}
use Rattle.std.specs.List.{AllByRecursion, Contains}
use Rattle.std.proofs.lemmas.Bool.Decides.{Decides-and, Decides-int_eq, Decides-eqb, Decides-like}
use Rattle.ls_object.specs.declared.symbol.Symbol.{Symbol}
use Rattle.ls_object.specs.Universe.{LispObject, node, LispShape, number, character, symbol, pair, array, structure, opaque, Structures, IsName, IsObject, IsShape, IsPlain, plain, plain_shape}
use Rattle.ls_object.proofs.SymbolLemmas.{Decides-text, Decides-symbol}
use Rattle.ls_spec.specs.Specifier.{Specifier, and_of, or_of, not_of, cons_of, satisfies, Specifiers, no_more, also}
use Rattle.ls_spec.specs.Membership.{Belongs}
use Rattle.ls_spec.specs.Approximation.{bounded, bounded_all, low, high, HasNoPredicate, HaveNoPredicate}
use Rattle.ls_spec.proofs.ApproximationLemmas.{low_within, within_high}
use Rattle.ls_spec.proofs.PlainLemmas.{Belongs-plain, plain-Belongs}
use Rattle.ls_spec.proofs.TruthLemmas.{Decides-kind}
use Rattle.ls_decide.specs.Meanings.{Meaning, IsMeaning, same_bool, same_plain, same_plain_shape, true_of, marked, marked_shape, marks_of}

-- ---- the test of plain forms

Decides-bool : (a b : Bool) → Decides (same_bool a b) (a ≡ b)
Decides-bool true true = (λ _. refl, λ _. refl)
Decides-bool true false = (λ e. absurd (cc), λ e. absurd (cc))
Decides-bool false true = (λ e. absurd (cc), λ e. absurd (cc))
Decides-bool false false = (λ _. refl, λ _. refl)

same_number : (n m : _) (d e : ℕ) → (n ≡ m) × (d ≡ e) → number n d ≡ number m e
same_number n m d e h = let f = h.0 in let g = h.1 in cc

same_array : (c k : ℕ) (a b : Bool) (ns ms : List ℕ) → (c ≡ k) × ((a ≡ b) × (ns ≡ ms)) → array c a ns ≡ array k b ms
same_array c k a b ns ms h = let e = h.0 in let f = h.1.0 in let g = h.1.1 in cc

same_pair : (x y car cdr : LispObject) → (x ≡ car) × (y ≡ cdr) → pair x y ≡ pair car cdr
same_pair x y car cdr h = let e = h.0 in let f = h.1 in cc

mutual
  -- it tells whether the plain forms are equal
  pub Decides-same_plain : (o x : LispObject) → Decides (same_plain o x) (plain o ≡ plain x)
  Decides-same_plain (node m s) (node n t) =
      Decides-like (same_plain_shape s t) (λ e. ap (node []) e) (λ e. cc) (Decides-same_plain_shape s t)

  Decides-same_plain_shape : (s t : LispShape) → Decides (same_plain_shape s t) (plain_shape s ≡ plain_shape t)
  Decides-same_plain_shape (number n d) (number m e) =
      Decides-like _ (same_number n m d e) (λ f. (cc, cc)) (Decides-and _ _ (Decides-int_eq n m) (Decides-eqb d e))
  Decides-same_plain_shape (character c) (character k) = Decides-like _ (λ e. ap character e) (λ e. cc) (Decides-eqb c k)
  Decides-same_plain_shape (symbol s) (symbol t) = Decides-like _ (λ e. ap symbol e) (λ e. cc) (Decides-symbol s t)
  Decides-same_plain_shape (pair x y) (pair car cdr) =
      Decides-like _ (same_pair (plain x) (plain y) (plain car) (plain cdr)) (λ e. (cc, cc)) (Decides-and _ _ (Decides-same_plain x car) (Decides-same_plain y cdr))
  Decides-same_plain_shape (array c a ns) (array k b ms) =
      Decides-like _ (same_array c k a b ns ms) (λ e. (cc, (cc, cc))) (Decides-and _ _ (Decides-eqb c k) (Decides-and _ _ (Decides-bool a b) (Decides-text ns ms)))
  Decides-same_plain_shape (structure s) (structure t) = Decides-like _ (λ e. ap structure e) (λ e. cc) (Decides-symbol s t)
  Decides-same_plain_shape (opaque j) (opaque k) = Decides-like _ (λ e. ap opaque e) (λ e. cc) (Decides-kind j k)
  Decides-same_plain_shape _ _ = (λ e. absurd (cc), λ e. absurd (cc))

-- ---- the marks

abbrev Said : Type 0
Said = Symbol × LispObject

abbrev said : Symbol → LispObject → Said
said p o = (p, o)

first_or_later : {X : Type 0} (x y : X) (xs : List X) → Contains (x ∷ xs) y → (x ≡ y) ⊎ Contains xs y
first_or_later x y xs (zero, lt, e) = inl e
first_or_later x y xs (suc k, lt, e) = inr (k, omega (arith, lt), e)

first : {X : Type 0} (x y : X) (xs : List X) → x ≡ y → Contains (x ∷ xs) y
first x y xs e = (0, omega arith, e)

later : {X : Type 0} (x y : X) (xs : List X) → Contains xs y → Contains (x ∷ xs) y
later x y xs c = (suc c.0, (let lt = c.1 in omega arith), c.2)

same_said : (p q : Symbol) (x y : LispObject) → p ≡ q → x ≡ y → said p x ≡ said q y
same_said p q x y e f = cc

module _ (meaning : Meaning) (o : LispObject) (p q : Symbol) (x : LispObject) (x_plain : IsPlain x) where
  -- one predicate more of which the meaning says something
  said_by : (Contains (true_of meaning o) p → Contains meaning (said p (plain o))) → (b : Bool) → Decides b (plain x ≡ plain o)
      → Contains (if b then q ∷ true_of meaning o else true_of meaning o) p → Contains (said q x ∷ meaning) (said p (plain o))
  said_by rest true d c = by (first_or_later q p (true_of meaning o) c)
    where
      by : (q ≡ p) ⊎ Contains (true_of meaning o) p → Contains (said q x ∷ meaning) (said p (plain o))
      by (inl e) = first (said q x) (said p (plain o)) meaning (same_said q p x (plain o) e (sym x_plain ∙ d.0 refl))
      by (inr k) = later (said q x) (said p (plain o)) meaning (rest k)
  said_by rest false d c = later (said q x) (said p (plain o)) meaning (rest c)

  marks_by : (Contains meaning (said p (plain o)) → Contains (true_of meaning o) p) → (b : Bool) → Decides b (plain x ≡ plain o)
      → (said q x ≡ said p (plain o)) ⊎ Contains meaning (said p (plain o)) → Contains (if b then q ∷ true_of meaning o else true_of meaning o) p
  marks_by rest true d (inl e) = first q p (true_of meaning o) (ap (λ (f : Said). f.0) e)
  marks_by rest false d (inl e) = absurd (let f = d.1 (x_plain ∙ ap (λ (g : Said). g.1) e) in cc)
  marks_by rest true d (inr k) = later q p (true_of meaning o) (rest k)
  marks_by rest false d (inr k) = rest k

marks_said : (meaning : Meaning) (o : LispObject) (p : Symbol) → IsMeaning meaning → Contains (true_of meaning o) p → Contains meaning (said p (plain o))
marks_said [] o p h c = absurd (omega (arith, c.1))
marks_said ((q, x) ∷ meaning) o p h c = said_by meaning o p q x h.0.1 (marks_said meaning o p h.1) (same_plain x o) (Decides-same_plain x o) c

said_marks : (meaning : Meaning) (o : LispObject) (p : Symbol) → IsMeaning meaning → Contains meaning (said p (plain o)) → Contains (true_of meaning o) p
said_marks [] o p h c = absurd (omega (arith, c.1))
said_marks ((q, x) ∷ meaning) o p h c =
    marks_by meaning o p q x h.0.1 (said_marks meaning o p h.1) (same_plain x o) (Decides-same_plain x o) (first_or_later (said q x) (said p (plain o)) meaning c)

-- a predicate is a mark of an object exactly where the meaning says it of its plain form
pub marks_meant : (meaning : Meaning) (o : LispObject) (p : Symbol) → IsMeaning meaning → Contains (marks_of (marked meaning o)) p ↔ Contains meaning (p, plain o)
marks_meant meaning (node marks shape) p h = (marks_said meaning (node marks shape) p h, said_marks meaning (node marks shape) p h)

-- ---- the marked object

mutual
  -- it has the same plain form
  pub plain_marked : (meaning : Meaning) (o : LispObject) → plain (marked meaning o) ≡ plain o
  plain_marked meaning (node marks shape) = ap (node []) (plain_shape_marked meaning shape)

  plain_shape_marked : (meaning : Meaning) (shape : LispShape) → plain_shape (marked_shape meaning shape) ≡ plain_shape shape
  plain_shape_marked meaning (pair x y) = let e = plain_marked meaning x in let f = plain_marked meaning y in cc
  plain_shape_marked meaning (number n d) = refl
  plain_shape_marked meaning (character c) = refl
  plain_shape_marked meaning (symbol s) = refl
  plain_shape_marked meaning (array c simple dims) = refl
  plain_shape_marked meaning (structure s) = refl
  plain_shape_marked meaning (opaque k) = refl

names_true : (meaning : Meaning) (o : LispObject) → IsMeaning meaning → AllByRecursion IsName (true_of meaning o)
names_true [] o h = tt
names_true ((p, x) ∷ meaning) o h = by (same_plain x o) (names_true meaning o h.1)
  where
    by : (b : Bool) → AllByRecursion IsName (true_of meaning o) → AllByRecursion IsName (if b then p ∷ true_of meaning o else true_of meaning o)
    by true k = (h.0.0, k)
    by false k = k

mutual
  -- it is an object where the other is one
  pub marked_object : (structures : Structures) (meaning : Meaning) (o : LispObject) → IsMeaning meaning → IsObject structures o → IsObject structures (marked meaning o)
  marked_object structures meaning (node marks shape) h k = (names_true meaning (node marks shape) h, marked_is_shape structures meaning shape h k.1)

  marked_is_shape : (structures : Structures) (meaning : Meaning) (shape : LispShape) → IsMeaning meaning → IsShape structures shape → IsShape structures (marked_shape meaning shape)
  marked_is_shape structures meaning (pair x y) h k = (marked_object structures meaning x h k.0, marked_object structures meaning y h k.1)
  marked_is_shape structures meaning (number n d) h k = k
  marked_is_shape structures meaning (character c) h k = k
  marked_is_shape structures meaning (symbol s) h k = k
  marked_is_shape structures meaning (array c simple dims) h k = k
  marked_is_shape structures meaning (structure s) h k = k
  marked_is_shape structures meaning (opaque k) h l = l

-- ---- membership under a meaning

mutual
  -- an approximation has no predicates
  bounded_free : (upper : Bool) (s : Specifier) → HasNoPredicate (bounded upper s)
  bounded_free upper (and_of ss) = bounded_all_free upper ss
  bounded_free upper (or_of ss) = bounded_all_free upper ss
  bounded_free true (not_of s) = bounded_free false s
  bounded_free false (not_of s) = bounded_free true s
  bounded_free upper (cons_of a b) = (bounded_free upper a, bounded_free upper b)
  bounded_free true (satisfies p) = tt
  bounded_free false (satisfies p) = tt
  bounded_free upper _ = tt

  bounded_all_free : (upper : Bool) (ss : Specifiers) → HaveNoPredicate (bounded_all upper ss)
  bounded_all_free upper no_more = tt
  bounded_all_free upper (also s ss) = (bounded_free upper s, bounded_all_free upper ss)

-- what belongs to the lower approximation belongs to the type under each meaning
pub low_meant : (structures : Structures) (s : Specifier) (meaning : Meaning) (o : LispObject) → IsPlain o → Belongs structures (low s) o → Belongs structures s (marked meaning o)
low_meant structures s meaning o is_plain h =
    low_within structures s (marked meaning o)
    (plain-Belongs structures (low s) (marked meaning o) (bounded_free false s) (subst (Belongs structures (low s)) (sym (plain_marked meaning o ∙ is_plain)) h))

-- what belongs to the type under some meaning belongs to the upper approximation
pub high_meant : (structures : Structures) (s : Specifier) (meaning : Meaning) (o : LispObject) → IsPlain o → Belongs structures s (marked meaning o) → Belongs structures (high s) o
high_meant structures s meaning o is_plain h =
    subst (Belongs structures (high s)) (plain_marked meaning o ∙ is_plain)
    (Belongs-plain structures (high s) (marked meaning o) (bounded_free true s) (within_high structures s (marked meaning o) h))
