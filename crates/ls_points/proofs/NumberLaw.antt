-- The numbers that stand for all numbers.
use Rattle.std.proofs.Common.{ℕ, zero, suc, ℤ, pos, ◌≡◌, ◌+◌, ◌*◌, ◌<◌, ◌≤◌, ◌*ℤ◌, int_le, int_lt, ap, refl, sym, subst, ◌∙◌, inl, inr, Bool, not, ◌&&◌, ◌==◌, List, [], ◌∷◌, map, get_or, length, arith}
use Rattle.std.specs.List.{AllByRecursion}
use Rattle.std.specs.List.Sorted.{IsPermutation}
use Rattle.std.specs.Ordering.{int_eq}
use Rattle.std.proofs.lemmas.Bool.Decides.{Decides-and, Decides-int_eq, Decides-eqb}
use Rattle.std.proofs.lemmas.List.Sorted.{IsPermutation-sym, length_permutation}
use Rattle.ls_object.specs.declared.object.Object.{Object}
use Rattle.ls_object.specs.declared.rat.Rat.{Rat}
use Rattle.ls_object.specs.Universe.{node, LispShape, number, Structures, IsObject}
use Rattle.ls_object.specs.Meaning.{lisp_object}
use Rattle.ls_spec.specs.declared.spec.Bound.{Bound}
use Rattle.ls_spec.specs.declared.spec.Bound.TheVariants.{Free, Incl, Excl}
use Rattle.ls_spec.specs.declared.spec.RangeKind.{RangeKind}
use Rattle.ls_spec.specs.declared.spec.RangeKind.TheVariants.{Integer, Rational}
use Rattle.ls_spec.specs.declared.spec.Point.TheVariants as point
use Rattle.ls_spec.specs.declared.spec.Spec.{Spec}
use Rattle.ls_spec.specs.Fits.{IsAtom}
use Rattle.ls_spec.specs.Meaning.{specifier}
use Rattle.ls_spec.specs.Specifier.{Specifier, all_objects, no_objects, and_of, or_of, not_of, eql_to, range_of}
use Rattle.ls_spec.specs.Membership.{is_of_range_kind, Belongs}
use Rattle.ls_spec.specs.Regions.{AreRepresentatives, IsPlainOf}
use Rattle.ls_spec.specs.Truth.{holds, nothing_learnt, is_above, is_below}
use Rattle.ls_spec.proofs.AlikeLemmas.{AllByRecursion-front, AllByRecursion-back}
use Rattle.ls_points.specs.Classes.{IsNumber, IsFitAtom, is_range, is_number_point, count_atoms}
use Rattle.ls_points.specs.steps.Numbers.{Fraction, fraction, is_at_most, is_integer, bound_end, named_ends, ends_of, CompareAlike, AreLike, AreStandIns}
use Rattle.ls_points.proofs.EndLemmas.{AllByRecursion-permutation, count_ends}
use Rattle.ls_points.specs.steps.Some.{SomeOf}
use Rattle.ls_points.proofs.AnsweredLemmas.{all_of, each_answered, as_many_answered}
use Rattle.ls_points.proofs.FlatLemmas.{object_of, AreAlike, represented}
use Rattle.ls_points.proofs.FractionLemmas.{at_most_same, at_most_equal}
use Rattle.ls_points.proofs.GapLemmas.{alike as tests_alike}

-- the shape of a fraction
abbrev shape_of : Fraction → LispShape
shape_of q = number q.num q.den

-- ---- like fractions are in the same atoms

-- less is not at least
less_not : (a b : ℤ) → int_lt a b ≡ not (int_le b a)
less_not a b = grind arith

-- fractions that compare alike with the end of a lower bound are alike at it
above_alike : (b : Bound) (p q : Fraction) → AllByRecursion (CompareAlike p q) (bound_end b) → is_above b p.num p.den ≡ is_above b q.num q.den
above_alike Free p q h = refl
above_alike (Incl r) p q h = h.0.0
above_alike (Excl r) p q h = less_not (r.num *ℤ pos p.den) (p.num *ℤ pos r.den) ∙ ap not h.0.1 ∙ sym (less_not (r.num *ℤ pos q.den) (q.num *ℤ pos r.den))

-- the same for an upper bound
below_alike : (b : Bound) (p q : Fraction) → AllByRecursion (CompareAlike p q) (bound_end b) → is_below b p.num p.den ≡ is_below b q.num q.den
below_alike Free p q h = refl
below_alike (Incl r) p q h = h.0.1
below_alike (Excl r) p q h = less_not (p.num *ℤ pos r.den) (r.num *ℤ pos p.den) ∙ ap not h.0.0 ∙ sym (less_not (q.num *ℤ pos r.den) (r.num *ℤ pos q.den))

-- integers alike are alike at INTEGER and at RATIONAL
kind_alike : (k : RangeKind) (p q : Fraction) → is_integer p ≡ is_integer q → is_of_range_kind k p.den ≡ is_of_range_kind k q.den
kind_alike Integer p q h = h
kind_alike Rational p q h = refl

-- two tests at once
both_alike : (a b c d : Bool) → a ≡ b → c ≡ d → (a && c) ≡ (b && d)
both_alike a b c d e f = cc

-- a fraction is that of a number exactly where each is at most the other
is_point : (r : Rat) (q : Fraction) → (int_eq q.num r.num && (q.den == r.den)) ≡ (is_at_most (fraction r) q && is_at_most q (fraction r))
is_point r q =
    let parts = Decides-and (int_eq q.num r.num) (q.den == r.den) (Decides-int_eq q.num r.num) (Decides-eqb q.den r.den) in
    let order = Decides-and (is_at_most (fraction r) q) (is_at_most q (fraction r)) (λ e. e, λ e. e) (λ e. e, λ e. e) in
    tests_alike (int_eq q.num r.num && (q.den == r.den)) (is_at_most (fraction r) q && is_at_most q (fraction r))
    (λ e. let h = parts.0 e in order.1 (at_most_same (fraction r) q (sym h.0) (sym h.1), at_most_same q (fraction r) h.0 h.1))
    (λ e. let h = order.0 e in parts.1 (at_most_equal q (fraction r) h.1 h.0))

-- fractions that compare alike with a number are alike at EQL of it
point_alike : (r : Rat) (p q : Fraction) → CompareAlike p q r → (int_eq p.num r.num && (p.den == r.den)) ≡ (int_eq q.num r.num && (q.den == r.den))
point_alike r p q h = is_point r p ∙ both_alike _ _ _ _ h.0 h.1 ∙ sym (is_point r q)

-- fractions that are like at the ends of an atom are in it alike
like_in : (s : Specifier) (p q : Fraction) → IsAtom s → AreLike (named_ends s) p q → holds nothing_learnt s (node [] (number p.num p.den)) ≡ holds nothing_learnt s (node [] (number q.num q.den))
like_in (eql_to (point.Number r)) p q is like = point_alike r p q like.0.0
like_in (eql_to (point.Char c)) p q is like = refl
like_in (eql_to (point.Sym s)) p q is like = refl
like_in (range_of k lo hi) p q is like =
    both_alike _ _ _ _ (kind_alike k p q like.1)
    (both_alike _ _ _ _ (above_alike lo p q (AllByRecursion-front (CompareAlike p q) (bound_end lo) (bound_end hi) like.0)) (below_alike hi p q (AllByRecursion-back (CompareAlike p q) (bound_end lo) (bound_end hi) like.0)))
like_in all_objects p q is like = absurd is
like_in no_objects p q is like = absurd is
like_in (and_of ss) p q is like = absurd is
like_in (or_of ss) p q is like = absurd is
like_in (not_of s) p q is like = absurd is
like_in _ p q is like = refl

-- fractions that are like at all ends are in all atoms alike
alike : (atoms : List Spec) (p q : Fraction) → AllByRecursion (λ a. IsFitAtom (specifier a)) atoms → AreLike (ends_of atoms) p q → AreAlike shape_of atoms p q
alike [] p q fit like = tt
alike (a ∷ more) p q fit like =
    let here = AllByRecursion-front (CompareAlike p q) (named_ends (specifier a)) (ends_of more) like.0 in
    let there = AllByRecursion-back (CompareAlike p q) (named_ends (specifier a)) (ends_of more) like.0 in
    (like_in (specifier a) p q fit.0.0 (here, like.1), alike more p q fit.1 (there, like.1))

-- ---- the law

-- what holds of the fraction of a number in the list holds of some fraction
some_fraction : (P : Fraction → Type 0) (numbers : List Rat) (r : Rat) (i : ℕ) → i < length numbers → get_or numbers i r ≡ r → P (fraction r) → SomeOf P (map fraction numbers)
some_fraction P [] r i l e h = absurd (omega arith)
some_fraction P (x ∷ xs) r zero l e h = inl (subst (λ y. P (fraction y)) (sym e) h)
some_fraction P (x ∷ xs) r (suc i) l e h = inr (some_fraction P xs r i (omega arith) e h)

-- the objects of numbers are those of their fractions
pub fractions_is : (numbers : List Rat) → map (λ r. node [] (number r.num r.den)) numbers ≡ map (λ q. node [] (shape_of q)) (map fraction numbers)
fractions_is [] = refl
fractions_is (r ∷ rs) = ap (λ os. node [] (number r.num r.den) ∷ os) (fractions_is rs)

-- there are as many fractions as numbers
length_fractions : (numbers : List Rat) → length (map fraction numbers) ≡ length numbers
length_fractions [] = refl
length_fractions (r ∷ rs) = ap suc (length_fractions rs)

module _ (atoms : List Spec) (sorted numbers : List Rat) (fit : AllByRecursion (λ a. IsFitAtom (specifier a)) atoms) (same : IsPermutation (ends_of atoms) sorted) (right : AreStandIns sorted numbers) (few : length numbers ≤ 2 + 3 * length sorted)
    (answered : List Object) (are : map lisp_object answered ≡ map (λ r. node [] (number r.num r.den)) numbers) where
  -- the answered objects are those of the fractions
  abbrev is : map lisp_object answered ≡ map (λ q. node [] (shape_of q)) (map fraction numbers)
  is = are ∙ fractions_is numbers

  -- each fraction is in the same atoms as one of them
  covered : (q : Fraction) → SomeOf (λ p. AreAlike shape_of atoms p q) (map fraction numbers)
  covered q =
      let (r, (i, l, e), like) = right q in
      some_fraction (λ p. AreAlike shape_of atoms p q) numbers r i l e
      (alike atoms (fraction r) q fit (AllByRecursion-permutation (CompareAlike (fraction r) q) sorted (ends_of atoms) (IsPermutation-sym (ends_of atoms) sorted same) like.0, like.1))

  -- the numbers stand for all numbers
  pub number_law : (structures : Structures) → AreRepresentatives structures IsNumber (λ a o. Belongs structures (specifier a) o) atoms answered
  number_law structures (node marks (number n d)) object class =
      let q : Fraction = record { num = n; den = d; positive = object.1.0; lowest = object.1.1 } in
      represented shape_of (λ q. tt) structures atoms answered (map fraction numbers) marks q is (covered q)
  number_law structures (node marks _) object class = absurd class

  -- each answered object is one of the universe
  pub number_objects : (structures : Structures) → AllByRecursion (λ r. IsObject structures (lisp_object r)) answered
  number_objects structures = each_answered (object_of shape_of) (IsObject structures) answered (map fraction numbers) is
      (all_of (λ q. IsObject structures (node [] (shape_of q))) (λ q. (tt, (q.positive, q.lowest))) (map fraction numbers))

  -- each is a plain number
  pub number_plains : AllByRecursion (λ r. IsPlainOf IsNumber (lisp_object r)) answered
  number_plains = each_answered (object_of shape_of) (IsPlainOf IsNumber) answered (map fraction numbers) is
      (all_of (λ q. IsPlainOf IsNumber (node [] (shape_of q))) (λ q. (refl, tt)) (map fraction numbers))

  -- there are few of them
  pub number_count : length answered ≤ 4 + 6 * count_atoms is_range (map specifier atoms) + 3 * count_atoms is_number_point (map specifier atoms)
  number_count =
      let e = as_many_answered (object_of shape_of) answered (map fraction numbers) is in
      let f = length_fractions numbers in
      let g = length_permutation (ends_of atoms) sorted same in
      let h = count_ends atoms in
      omega (arith, few)
