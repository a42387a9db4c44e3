-- The lower and the upper approximation of a specifier have no predicate, and otherwise what the specifier has.
use Rattle.std.proofs.Common.{◌≡◌, ap, refl, Bool, true, false, not, ◌||◌, if◌then◌else◌, arith}
use Rattle.ls_object.specs.Universe.{Structures}
use Rattle.ls_spec.specs.Specifier.{Specifier, all_objects, no_objects, and_of, or_of, not_of, cons_of, satisfies, Specifiers, no_more, also}
use Rattle.ls_spec.specs.Fits.{Fits, HasSmallNumbers, HaveSmallNumbers, HasKnownNames, HaveKnownNames, depth, greatest_depth}
use Rattle.ls_spec.specs.Approximation.{bounded, bounded_all, HasNoPredicate, HaveNoPredicate, has_free_predicate}
use Rattle.ls_spec.proofs.BoundLemmas.{Decides-no_predicate}
use Rattle.ls_cells.specs.Codes.{Codes, HasCodes, HaveCodes}

-- what a predicate becomes
bound-has : (P : Specifier → Type 0) (upper : Bool) → P all_objects → P no_objects → P (if upper then all_objects else no_objects)
bound-has P true all none = all
bound-has P false all none = none

mutual
  -- no predicate stands outside element types
  pub bounded-no_predicates : (upper : Bool) (s : Specifier) → HasNoPredicate (bounded upper s)
  bounded-no_predicates upper (and_of ss) = all-no_predicates upper ss
  bounded-no_predicates upper (or_of ss) = all-no_predicates upper ss
  bounded-no_predicates upper (not_of s) = bounded-no_predicates (not upper) s
  bounded-no_predicates upper (cons_of a b) = (bounded-no_predicates upper a, bounded-no_predicates upper b)
  bounded-no_predicates upper (satisfies p) = bound-has HasNoPredicate upper tt tt
  bounded-no_predicates upper _ = tt

  all-no_predicates : (upper : Bool) (ss : Specifiers) → HaveNoPredicate (bounded_all upper ss)
  all-no_predicates upper no_more = tt
  all-no_predicates upper (also s ss) = (bounded-no_predicates upper s, all-no_predicates upper ss)

mutual
  bounded-numbers : (upper : Bool) (s : Specifier) → HasSmallNumbers s → HasSmallNumbers (bounded upper s)
  bounded-numbers upper (and_of ss) h = all-numbers upper ss h
  bounded-numbers upper (or_of ss) h = all-numbers upper ss h
  bounded-numbers upper (not_of s) h = bounded-numbers (not upper) s h
  bounded-numbers upper (cons_of a b) h = (bounded-numbers upper a h.0, bounded-numbers upper b h.1)
  bounded-numbers upper (satisfies p) h = bound-has HasSmallNumbers upper tt tt
  bounded-numbers upper _ h = h

  all-numbers : (upper : Bool) (ss : Specifiers) → HaveSmallNumbers ss → HaveSmallNumbers (bounded_all upper ss)
  all-numbers upper no_more h = tt
  all-numbers upper (also s ss) h = (bounded-numbers upper s h.0, all-numbers upper ss h.1)

mutual
  bounded-names : (structures : Structures) (upper : Bool) (s : Specifier) → HasKnownNames structures s → HasKnownNames structures (bounded upper s)
  bounded-names structures upper (and_of ss) h = all-names structures upper ss h
  bounded-names structures upper (or_of ss) h = all-names structures upper ss h
  bounded-names structures upper (not_of s) h = bounded-names structures (not upper) s h
  bounded-names structures upper (cons_of a b) h = (bounded-names structures upper a h.0, bounded-names structures upper b h.1)
  bounded-names structures upper (satisfies p) h = bound-has (HasKnownNames structures) upper tt tt
  bounded-names structures upper _ h = h

  all-names : (structures : Structures) (upper : Bool) (ss : Specifiers) → HaveKnownNames structures ss → HaveKnownNames structures (bounded_all upper ss)
  all-names structures upper no_more h = tt
  all-names structures upper (also s ss) h = (bounded-names structures upper s h.0, all-names structures upper ss h.1)

mutual
  bounded-depth : (upper : Bool) (s : Specifier) → depth (bounded upper s) ≡ depth s
  bounded-depth upper (and_of ss) = let e = all-depth upper ss in cc
  bounded-depth upper (or_of ss) = let e = all-depth upper ss in cc
  bounded-depth upper (not_of s) = let e = bounded-depth (not upper) s in cc
  bounded-depth upper (cons_of a b) = let e = bounded-depth upper a in let f = bounded-depth upper b in cc
  bounded-depth upper (satisfies p) = bound-has (λ s. depth s ≡ 1) upper refl refl
  bounded-depth upper _ = refl

  all-depth : (upper : Bool) (ss : Specifiers) → greatest_depth (bounded_all upper ss) ≡ greatest_depth ss
  all-depth upper no_more = refl
  all-depth upper (also s ss) = let e = bounded-depth upper s in let f = all-depth upper ss in cc

-- it fits where the specifier does
pub bounded-fits : (structures : Structures) (upper : Bool) (s : Specifier) → Fits structures s → Fits structures (bounded upper s)
bounded-fits structures upper s h =
    let e = bounded-depth upper s in
    let d = h.1.1 in
    (bounded-names structures upper s h.0, (bounded-numbers upper s h.1.0, omega (arith, e, d)))

mutual
  -- its element types are those of the specifier
  pub bounded-codes : (codes : Codes) (upper : Bool) (s : Specifier) → HasCodes codes s → HasCodes codes (bounded upper s)
  bounded-codes codes upper (and_of ss) h = all-codes codes upper ss h
  bounded-codes codes upper (or_of ss) h = all-codes codes upper ss h
  bounded-codes codes upper (not_of s) h = bounded-codes codes (not upper) s h
  bounded-codes codes upper (cons_of a b) h = (bounded-codes codes upper a h.0, bounded-codes codes upper b h.1)
  bounded-codes codes upper (satisfies p) h = bound-has (HasCodes codes) upper tt tt
  bounded-codes codes upper _ h = h

  all-codes : (codes : Codes) (upper : Bool) (ss : Specifiers) → HaveCodes codes ss → HaveCodes codes (bounded_all upper ss)
  all-codes codes upper no_more h = tt
  all-codes codes upper (also s ss) h = (bounded-codes codes upper s h.0, all-codes codes upper ss h.1)

not_both : (x y : Bool) → (x || y) ≡ false → (not x ≡ true) × (not y ≡ true)
not_both true y e = absurd (cc)
not_both false y e = (refl, ap not e)

-- where no predicate is free in either of two specifiers, none stands in them outside element types
pub neither_free : (a b : Specifier) → (has_free_predicate a || has_free_predicate b) ≡ false → HasNoPredicate a × HasNoPredicate b
neither_free a b e =
    let each = not_both (has_free_predicate a) (has_free_predicate b) e in
    ((Decides-no_predicate a).0 each.0, (Decides-no_predicate b).0 each.1)
