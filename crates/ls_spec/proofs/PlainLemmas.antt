-- Without predicates marks change nothing: an object belongs to a specifier where its plain form does.
use Rattle.std.proofs.Common.{◌≡◌, ap, sym, subst, refl, Bool, true, false, not, inl, inr, [], ◌∷◌}
use Rattle.ls_object.specs.Universe.{LispObject, node, LispShape, number, character, symbol, pair, array, structure, opaque, Structures, IsObject, IsShape, plain, plain_shape}
use Rattle.ls_spec.specs.declared.spec.Point.{Point}
use Rattle.ls_spec.specs.declared.spec.Point.TheVariants as point
use Rattle.ls_spec.specs.Specifier.{Specifier, all_objects, no_objects, and_of, or_of, not_of, eql_to, range_of, chars_of, symbols_of, kind_of, structure_under, any_structure, array_any, array_of, string_of, cons_of, satisfies, Specifiers, no_more, also}
use Rattle.ls_spec.specs.Membership.{IsPoint, IsInRange, IsCharIn, IsSymbolIn, IsOfKind, IsStructureUnder, IsAnyStructure, MatchesDimensions, MatchesPlaces, IsArrayWith, IsStringCode, IsFirstHolding, Belongs, BelongsToAll, BelongsToSome}
use Rattle.ls_spec.specs.Approximation.{bounded, bounded_all, HasNoPredicate, HaveNoPredicate}
use Rattle.ls_spec.specs.Inclusion.{IsUnsureWitness}

-- ---- plain forms

mutual
  plain-plain : (o : LispObject) → plain (plain o) ≡ plain o
  plain-plain (node marks shape) = ap (node []) (plain_shape-plain_shape shape)

  plain_shape-plain_shape : (s : LispShape) → plain_shape (plain_shape s) ≡ plain_shape s
  plain_shape-plain_shape (pair x y) = let e = plain-plain x in let f = plain-plain y in cc
  plain_shape-plain_shape (number n d) = refl
  plain_shape-plain_shape (character c) = refl
  plain_shape-plain_shape (symbol s) = refl
  plain_shape-plain_shape (array c simple dims) = refl
  plain_shape-plain_shape (structure s) = refl
  plain_shape-plain_shape (opaque k) = refl

mutual
  IsObject-plain : (structures : Structures) (o : LispObject) → IsObject structures o → IsObject structures (plain o)
  IsObject-plain structures (node marks shape) h = (tt, IsShape-plain structures shape h.1)

  IsShape-plain : (structures : Structures) (s : LispShape) → IsShape structures s → IsShape structures (plain_shape s)
  IsShape-plain structures (pair x y) h = (IsObject-plain structures x h.0, IsObject-plain structures y h.1)
  IsShape-plain structures (number n d) h = h
  IsShape-plain structures (character c) h = h
  IsShape-plain structures (symbol s) h = h
  IsShape-plain structures (array c simple dims) h = h
  IsShape-plain structures (structure s) h = h
  IsShape-plain structures (opaque k) h = h

-- ---- membership

-- what no cons is holds of a shape where it holds of its plain form
module _ (P : LispShape → Type 0) (no_pair : (x y : LispObject) → P (pair x y) → ⊥) where
  into_plain : (s : LispShape) → P s → P (plain_shape s)
  into_plain (pair x y) h = absurd (no_pair x y h)
  into_plain (number n d) h = h
  into_plain (character c) h = h
  into_plain (symbol s) h = h
  into_plain (array c simple dims) h = h
  into_plain (structure s) h = h
  into_plain (opaque k) h = h

  from_plain : (s : LispShape) → P (plain_shape s) → P s
  from_plain (pair x y) h = absurd (no_pair (plain x) (plain y) h)
  from_plain (number n d) h = h
  from_plain (character c) h = h
  from_plain (symbol s) h = h
  from_plain (array c simple dims) h = h
  from_plain (structure s) h = h
  from_plain (opaque k) h = h

no_pair_point : (p : Point) (x y : LispObject) → IsPoint p (pair x y) → ⊥
no_pair_point (point.Number r) x y h = h
no_pair_point (point.Char c) x y h = h
no_pair_point (point.Sym s) x y h = h

mutual
  pub Belongs-plain : (structures : Structures) (s : Specifier) (o : LispObject) → HasNoPredicate s → Belongs structures s o → Belongs structures s (plain o)
  Belongs-plain structures all_objects o free h = tt
  Belongs-plain structures no_objects o free h = h
  Belongs-plain structures (and_of ss) o free h = all-plain structures ss o free h
  Belongs-plain structures (or_of ss) o free h = some-plain structures ss o free h
  Belongs-plain structures (not_of s) o free h = λ k. h (plain-Belongs structures s o free k)
  Belongs-plain structures (eql_to p) (node marks shape) free h = into_plain (IsPoint p) (no_pair_point p) shape h
  Belongs-plain structures (range_of k lo hi) (node marks shape) free h = into_plain (IsInRange k lo hi) (λ x y e. e) shape h
  Belongs-plain structures (chars_of k) (node marks shape) free h = into_plain (IsCharIn k) (λ x y e. e) shape h
  Belongs-plain structures (symbols_of k) (node marks shape) free h = into_plain (IsSymbolIn k) (λ x y e. e) shape h
  Belongs-plain structures (kind_of k) (node marks shape) free h = into_plain (IsOfKind k) (λ x y e. e) shape h
  Belongs-plain structures (structure_under y) (node marks shape) free h = into_plain (IsStructureUnder structures y) (λ x y e. e) shape h
  Belongs-plain structures any_structure (node marks shape) free h = into_plain IsAnyStructure (λ x y e. e) shape h
  Belongs-plain structures (array_any simple dims) (node marks shape) free h = into_plain (IsArrayWith (λ c. Unit {0}) simple (MatchesDimensions dims)) (λ x y e. e) shape h
  Belongs-plain structures (array_of e simple dims) (node marks shape) free h = into_plain (IsArrayWith (IsFirstHolding structures (Belongs structures e)) simple (MatchesDimensions dims)) (λ x y e. e) shape h
  Belongs-plain structures (string_of simple dim) (node marks shape) free h = into_plain (IsArrayWith IsStringCode simple (MatchesPlaces (dim ∷ []))) (λ x y e. e) shape h
  Belongs-plain structures (cons_of a b) (node marks (pair x y)) free h = (Belongs-plain structures a x free.0 h.0, Belongs-plain structures b y free.1 h.1)
  Belongs-plain structures (cons_of a b) (node marks _) free h = absurd h
  Belongs-plain structures (satisfies p) o free h = absurd free

  pub plain-Belongs : (structures : Structures) (s : Specifier) (o : LispObject) → HasNoPredicate s → Belongs structures s (plain o) → Belongs structures s o
  plain-Belongs structures all_objects o free h = tt
  plain-Belongs structures no_objects o free h = h
  plain-Belongs structures (and_of ss) o free h = plain-all structures ss o free h
  plain-Belongs structures (or_of ss) o free h = plain-some structures ss o free h
  plain-Belongs structures (not_of s) o free h = λ k. h (Belongs-plain structures s o free k)
  plain-Belongs structures (eql_to p) (node marks shape) free h = from_plain (IsPoint p) (no_pair_point p) shape h
  plain-Belongs structures (range_of k lo hi) (node marks shape) free h = from_plain (IsInRange k lo hi) (λ x y e. e) shape h
  plain-Belongs structures (chars_of k) (node marks shape) free h = from_plain (IsCharIn k) (λ x y e. e) shape h
  plain-Belongs structures (symbols_of k) (node marks shape) free h = from_plain (IsSymbolIn k) (λ x y e. e) shape h
  plain-Belongs structures (kind_of k) (node marks shape) free h = from_plain (IsOfKind k) (λ x y e. e) shape h
  plain-Belongs structures (structure_under y) (node marks shape) free h = from_plain (IsStructureUnder structures y) (λ x y e. e) shape h
  plain-Belongs structures any_structure (node marks shape) free h = from_plain IsAnyStructure (λ x y e. e) shape h
  plain-Belongs structures (array_any simple dims) (node marks shape) free h = from_plain (IsArrayWith (λ c. Unit {0}) simple (MatchesDimensions dims)) (λ x y e. e) shape h
  plain-Belongs structures (array_of e simple dims) (node marks shape) free h = from_plain (IsArrayWith (IsFirstHolding structures (Belongs structures e)) simple (MatchesDimensions dims)) (λ x y e. e) shape h
  plain-Belongs structures (string_of simple dim) (node marks shape) free h = from_plain (IsArrayWith IsStringCode simple (MatchesPlaces (dim ∷ []))) (λ x y e. e) shape h
  plain-Belongs structures (cons_of a b) (node marks (pair x y)) free h = (plain-Belongs structures a x free.0 h.0, plain-Belongs structures b y free.1 h.1)
  plain-Belongs structures (cons_of a b) (node marks _) free h = absurd h
  plain-Belongs structures (satisfies p) o free h = absurd free

  all-plain : (structures : Structures) (ss : Specifiers) (o : LispObject) → HaveNoPredicate ss → BelongsToAll structures ss o → BelongsToAll structures ss (plain o)
  all-plain structures no_more o free h = tt
  all-plain structures (also s ss) o free h = (Belongs-plain structures s o free.0 h.0, all-plain structures ss o free.1 h.1)

  some-plain : (structures : Structures) (ss : Specifiers) (o : LispObject) → HaveNoPredicate ss → BelongsToSome structures ss o → BelongsToSome structures ss (plain o)
  some-plain structures no_more o free h = h
  some-plain structures (also s ss) o free (inl h) = inl (Belongs-plain structures s o free.0 h)
  some-plain structures (also s ss) o free (inr h) = inr (some-plain structures ss o free.1 h)

  plain-all : (structures : Structures) (ss : Specifiers) (o : LispObject) → HaveNoPredicate ss → BelongsToAll structures ss (plain o) → BelongsToAll structures ss o
  plain-all structures no_more o free h = tt
  plain-all structures (also s ss) o free h = (plain-Belongs structures s o free.0 h.0, plain-all structures ss o free.1 h.1)

  plain-some : (structures : Structures) (ss : Specifiers) (o : LispObject) → HaveNoPredicate ss → BelongsToSome structures ss (plain o) → BelongsToSome structures ss o
  plain-some structures no_more o free h = h
  plain-some structures (also s ss) o free (inl h) = inl (plain-Belongs structures s o free.0 h)
  plain-some structures (also s ss) o free (inr h) = inr (plain-some structures ss o free.1 h)

-- ---- approximations

mutual
  -- without predicates a specifier is its own approximation
  pub bounded-no_predicate : (upper : Bool) (s : Specifier) → HasNoPredicate s → bounded upper s ≡ s
  bounded-no_predicate upper (and_of ss) free = ap and_of (bounded_all-no_predicate upper ss free)
  bounded-no_predicate upper (or_of ss) free = ap or_of (bounded_all-no_predicate upper ss free)
  bounded-no_predicate upper (not_of s) free = ap not_of (bounded-no_predicate (not upper) s free)
  bounded-no_predicate upper (cons_of a b) free = let e = bounded-no_predicate upper a free.0 in let f = bounded-no_predicate upper b free.1 in cc
  bounded-no_predicate upper (satisfies p) free = absurd free
  bounded-no_predicate upper _ free = refl

  bounded_all-no_predicate : (upper : Bool) (ss : Specifiers) → HaveNoPredicate ss → bounded_all upper ss ≡ ss
  bounded_all-no_predicate upper no_more free = refl
  bounded_all-no_predicate upper (also s ss) free = let e = bounded-no_predicate upper s free.0 in let f = bounded_all-no_predicate upper ss free.1 in cc

-- without predicates nothing is unsure
pub sure-no_predicate : (structures : Structures) (a b : Specifier) (o : LispObject) → HasNoPredicate a → HasNoPredicate b → IsUnsureWitness structures a b o → ⊥
sure-no_predicate structures a b o free_a free_b unsure =
    unsure.no_witness (plain unsure.marked) (record {
      is_object = IsObject-plain structures unsure.marked unsure.is_object;
      is_plain = plain-plain unsure.marked;
      inside = subst (λ s. Belongs structures s (plain unsure.marked)) (sym (bounded-no_predicate false a free_a)) (Belongs-plain structures a unsure.marked free_a unsure.inside);
      outside = λ h. unsure.outside (plain-Belongs structures b unsure.marked free_b (subst (λ s. Belongs structures s (plain unsure.marked)) (bounded-no_predicate true b free_b) h));
    })
