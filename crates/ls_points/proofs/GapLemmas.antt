-- Numbers that stand for all numbers, found from the least end upwards.
use Rattle.std.proofs.lemmas.Bool.{cases_Bool}
use Rattle.std.proofs.Common.{zero, suc, ◌≡◌, ◌==◌, Bool, ap, refl, sym, subst, ◌∙◌, inl, inr, true, false, true≢false, List, [], ◌∷◌, ◌++◌, Option, Some, None, MatchOption, ◌≤◌, ◌+◌, length, length-append, arith}
use Rattle.std.specs.List.{AllByRecursion, Contains}
use Rattle.std.specs.Option.{option_to_list}
use Rattle.ls_object.specs.Ratio.{IsLessRatio, HasNoIntegerBetween}
use Rattle.ls_object.specs.declared.rat.Rat.{Rat}
use Rattle.ls_spec.proofs.ListLemmas.{AllByRecursion-push, AllByRecursion-weaker}
use Rattle.ls_points.specs.declared.numbers.GapNumbers.{GapNumbers}
use Rattle.ls_points.specs.steps.Numbers.{Fraction, fraction, is_at_most, is_integer, IsAtMost, CompareAlike, AreLike, AreStandIns, IsLess, gap_numbers, IsIntegerBetween, AreBetween, AreBelow, AreAbove, GoesUpTo}
use Rattle.ls_points.specs.steps.Some.{SomeOf}
use Rattle.ls_points.proofs.FlatLemmas.{SomeOf-front, SomeOf-back, SomeOf-weaker}
use Rattle.ls_points.proofs.FractionLemmas.{at_most_total, at_most_itself, at_most_through, at_most_equal, less_false, false_less, not_at_most, integer_den, den_integer, no_integer}

-- ---- likeness

-- two tests that imply each other are equal
pub alike : (x y : Bool) → (x ≡ true → y ≡ true) → (y ≡ true → x ≡ true) → x ≡ y
alike true true f g = refl
alike true false f g = absurd (true≢false (sym (f refl)))
alike false true f g = absurd (true≢false (sym (g refl)))
alike false false f g = refl

-- equal fractions compare alike with everything
same_compare : (a b : Fraction) (u : Rat) → is_at_most a b ≡ true → is_at_most b a ≡ true → CompareAlike a b u
same_compare a b u h k = (
  alike (is_at_most (fraction u) a) (is_at_most (fraction u) b) (λ e. at_most_through (fraction u) a b e h) (λ e. at_most_through (fraction u) b a e k),
  alike (is_at_most a (fraction u)) (is_at_most b (fraction u)) (λ e. at_most_through b a (fraction u) k e) (λ e. at_most_through a b (fraction u) h e),
)

-- the same at each end
all_compare : (a b : Fraction) (us : List Rat) → is_at_most a b ≡ true → is_at_most b a ≡ true → AllByRecursion (CompareAlike a b) us
all_compare a b [] h k = tt
all_compare a b (u ∷ us) h k = (same_compare a b u h k, all_compare a b us h k)

-- equal fractions are alike
same_like : (ends : List Rat) (a b : Fraction) → is_at_most a b ≡ true → is_at_most b a ≡ true → AreLike ends a b
same_like ends a b h k = (all_compare a b ends h k, ap (λ d. d == 1) (at_most_equal a b h k).1)

-- two that are above an end compare alike with it
above_compare : (a b : Fraction) (u : Rat) → is_at_most a (fraction u) ≡ false → is_at_most b (fraction u) ≡ false → CompareAlike a b u
above_compare a b u h k = (at_most_total a (fraction u) h ∙ sym (at_most_total b (fraction u) k), h ∙ sym k)

-- two that are below an end compare alike with it
below_compare : (a b : Fraction) (u : Rat) → is_at_most (fraction u) a ≡ false → is_at_most (fraction u) b ≡ false → CompareAlike a b u
below_compare a b u h k = (h ∙ sym k, at_most_total (fraction u) a h ∙ sym (at_most_total (fraction u) b k))

-- two that are above the last end compare alike with each end
all_above : (a b last : Fraction) (us : List Rat) → AllByRecursion (λ u. is_at_most (fraction u) last ≡ true) us → is_at_most a last ≡ false → is_at_most b last ≡ false → AllByRecursion (CompareAlike a b) us
all_above a b last [] most h k = tt
all_above a b last (u ∷ us) most h k = (above_compare a b u (not_at_most (fraction u) last a most.0 h) (not_at_most (fraction u) last b most.0 k), all_above a b last us most.1 h k)

-- some element is one that the list contains
pub some_contained : {X : Type 0} (P : X → Type 0) (xs : List X) → SomeOf P xs → (x : X) × Contains xs x × P x
some_contained P [] h = absurd h
some_contained P (x ∷ xs) (inl h) = (x, (zero, omega arith, refl), h)
some_contained P (x ∷ xs) (inr h) = let (y, (i, l, e), k) = some_contained P xs h in (y, (suc i, omega arith, e), k)

-- ---- what stands so far

-- The ends that were seen are at most the last of them, and for each fraction up to that there is a number up to
-- that which is alike.
pub record Stands (seen : List Rat) (last : Rat) (numbers : List Rat) : Type 0 where
  pub most : AllByRecursion (λ u. IsAtMost u last) seen
  pub stands : (q : Fraction) → is_at_most q (fraction last) ≡ true → SomeOf (λ r. IsAtMost r last × AreLike (last ∷ seen) (fraction r) q) numbers

-- what is less is at most
less_most : (a b : Rat) → IsLess a b → IsAtMost a b
less_most a b h = at_most_total (fraction b) (fraction a) (less_false (fraction a) (fraction b) h)

-- ---- the least end

module _ (least : Rat) where
  -- the number is at most the least end, and like the fraction there
  abbrev IsGood : Fraction → Rat → Type 0
  IsGood q r = IsAtMost r least × AreLike (least ∷ least ∷ []) (fraction r) q

  -- a number below the least end stands for the fractions below it that are integers like it
  low : (q : Fraction) (r : Rat) → is_at_most (fraction least) q ≡ false → IsLess r least → is_integer (fraction r) ≡ is_integer q → IsGood q r
  low q r h less e =
      let c = below_compare (fraction r) q least (less_false (fraction r) (fraction least) less) h in
      (less_most r least less, ((c, (c, tt)), e))

  -- the integer below the least end stands for the integers below it
  low_integer : (q : Fraction) (k : Option Rat) → is_at_most (fraction least) q ≡ false → is_integer q ≡ true → MatchOption k ⊥ (λ r. IsLess r least × (r.den ≡ 1)) → SomeOf (IsGood q) (option_to_list k)
  low_integer q None h e is = absurd is
  low_integer q (Some r) h e is = inl (low q r h is.0 (den_integer (fraction r) is.1 ∙ sym e))

  -- the numbers below the least end stand for all fractions below it
  low_some : (q : Fraction) (g : GapNumbers) → is_at_most (fraction least) q ≡ false → AreBelow least g → SomeOf (IsGood q) (gap_numbers g)
  low_some q g h is = elim (cases_Bool (is_integer q)) [
    | inl e ↦ inr (low_integer q g.integer h e is.integer)
    | inr e ↦ inl (low q g.ratio h is.below (no_integer (fraction g.ratio) is.no_integer ∙ sym e))
  ]

  -- those numbers and the least end stand for all fractions up to it
  pub Stands-first : (g : GapNumbers) → AreBelow least g → Stands (least ∷ []) least (gap_numbers g ++ least ∷ [])
  Stands-first g is = record {
    most = (at_most_itself (fraction least), tt);
    stands = λ q h. elim (cases_Bool (is_at_most (fraction least) q)) [
      | inl e ↦ SomeOf-back (IsGood q) (gap_numbers g) (least ∷ []) (inl (at_most_itself (fraction least), same_like (least ∷ least ∷ []) (fraction least) q e h))
      | inr e ↦ SomeOf-front (IsGood q) (gap_numbers g) (least ∷ []) (low_some q g e is)
    ];
  }

-- ---- one end further

module _ (seen : List Rat) (last end : Rat) (numbers : List Rat) (so_far : Stands seen last numbers) where
  -- the number is at most the next end, and like the fraction at all ends up to it
  abbrev IsNext : Fraction → Rat → Type 0
  IsNext q r = IsAtMost r end × AreLike (end ∷ (seen ++ end ∷ [])) (fraction r) q

  -- what compares alike with the ends that were seen and with the next one
  pushed : (a b : Fraction) → CompareAlike a b end → AllByRecursion (CompareAlike a b) seen → AllByRecursion (CompareAlike a b) (end ∷ (seen ++ end ∷ []))
  pushed a b c all = (c, AllByRecursion-push (CompareAlike a b) seen end all c)

  -- all ends up to the next one are at most it
  most_pushed : IsAtMost last end → AllByRecursion (λ u. IsAtMost u end) (seen ++ end ∷ [])
  most_pushed h = AllByRecursion-push (λ u. IsAtMost u end) seen end (AllByRecursion-weaker (λ u. IsAtMost u last) (λ u. IsAtMost u end) (λ u k. at_most_through (fraction u) (fraction last) (fraction end) k h) seen so_far.most) (at_most_itself (fraction end))

  -- one that stands for a fraction up to the last end still does
  kept : (q : Fraction) → IsLess last end → is_at_most q (fraction last) ≡ true → (r : Rat) → IsAtMost r last × AreLike (last ∷ seen) (fraction r) q → IsNext q r
  kept q less h r (most, like) =
      let f = less_false (fraction last) (fraction end) less in
      let x = not_at_most (fraction r) (fraction last) (fraction end) most f in
      let y = not_at_most q (fraction last) (fraction end) h f in
      (at_most_through (fraction r) (fraction last) (fraction end) most (less_most last end less), (pushed (fraction r) q (below_compare (fraction r) q end x y) like.0.1, like.1))

  -- one of the gap stands for the fractions of the gap that are integers like it
  in_gap : (q : Fraction) (r : Rat) → is_at_most q (fraction last) ≡ false → is_at_most (fraction end) q ≡ false → IsLess last r → IsLess r end → is_integer (fraction r) ≡ is_integer q → IsNext q r
  in_gap q r above below lo hi e = (
    less_most r end hi,
    (
      pushed (fraction r) q (below_compare (fraction r) q end (less_false (fraction r) (fraction end) hi) below) (all_above (fraction r) q (fraction last) seen so_far.most (less_false (fraction last) (fraction r) lo) above),
      e,
    ),
  )

  -- the integer of the gap stands for the integers in it, and without one there are none
  gap_integer : (q : Fraction) (k : Option Rat) → is_at_most q (fraction last) ≡ false → is_at_most (fraction end) q ≡ false → is_integer q ≡ true → MatchOption k (HasNoIntegerBetween last.num last.den end.num end.den) (IsIntegerBetween last end) → SomeOf (IsNext q) (option_to_list k)
  gap_integer q None above below e none =
      let d = integer_den q e in
      absurd (none q.num (subst (λ n. IsLessRatio last.num last.den q.num n) d (false_less (fraction last) q above)) (subst (λ n. IsLessRatio q.num n end.num end.den) d (false_less q (fraction end) below)))
  gap_integer q (Some r) above below e is = inl (in_gap q r above below is.above is.below (den_integer (fraction r) is.is_integer ∙ sym e))

  -- the numbers of the gap stand for all fractions in it
  gap_some : (q : Fraction) (g : GapNumbers) → is_at_most q (fraction last) ≡ false → is_at_most (fraction end) q ≡ false → AreBetween last end g → SomeOf (IsNext q) (gap_numbers g)
  gap_some q g above below is = elim (cases_Bool (is_integer q)) [
    | inl e ↦ inr (gap_integer q g.integer above below e is.integer)
    | inr e ↦ inl (in_gap q g.ratio above below is.above is.below (no_integer (fraction g.ratio) is.no_integer ∙ sym e))
  ]

  -- with the next end they stand for all past the last end and up to the next
  past_last : (q : Fraction) (g : GapNumbers) → is_at_most q (fraction end) ≡ true → is_at_most q (fraction last) ≡ false → AreBetween last end g → SomeOf (IsNext q) (gap_numbers g ++ end ∷ [])
  past_last q g h above is = elim (cases_Bool (is_at_most (fraction end) q)) [
    | inl e ↦ SomeOf-back (IsNext q) (gap_numbers g) (end ∷ []) (inl (at_most_itself (fraction end), same_like (end ∷ (seen ++ end ∷ [])) (fraction end) q e h))
    | inr e ↦ SomeOf-front (IsNext q) (gap_numbers g) (end ∷ []) (gap_some q g above e is)
  ]

  -- past a gap
  Stands-next : (g : GapNumbers) → IsLess last end → AreBetween last end g → Stands (seen ++ end ∷ []) end (numbers ++ (gap_numbers g ++ end ∷ []))
  Stands-next g less is = record {
    most = most_pushed (less_most last end less);
    stands = λ q h. elim (cases_Bool (is_at_most q (fraction last))) [
      | inl e ↦ SomeOf-front (IsNext q) numbers (gap_numbers g ++ end ∷ []) (SomeOf-weaker _ (IsNext q) (kept q less e) numbers (so_far.stands q e))
      | inr e ↦ SomeOf-back (IsNext q) numbers (gap_numbers g ++ end ∷ []) (past_last q g h e is)
    ];
  }

  -- what compares alike with the last end compares alike with one that is equal to it
  moved : (a b : Fraction) → IsAtMost last end → IsAtMost end last → CompareAlike a b last → CompareAlike a b end
  moved a b up down like = (
    alike (is_at_most (fraction end) a) (is_at_most (fraction end) b)
        (λ e. at_most_through (fraction end) (fraction last) b down (sym like.0 ∙ at_most_through (fraction last) (fraction end) a up e))
        (λ e. at_most_through (fraction end) (fraction last) a down (like.0 ∙ at_most_through (fraction last) (fraction end) b up e)),
    alike (is_at_most a (fraction end)) (is_at_most b (fraction end))
        (λ e. at_most_through b (fraction last) (fraction end) (sym like.1 ∙ at_most_through a (fraction end) (fraction last) e down) up)
        (λ e. at_most_through a (fraction last) (fraction end) (like.1 ∙ at_most_through b (fraction end) (fraction last) e down) up),
  )

  -- past an end that is equal to the last
  Stands-again : IsAtMost last end → IsAtMost end last → Stands (seen ++ end ∷ []) end numbers
  Stands-again up down = record {
    most = most_pushed up;
    stands = λ q h.
        SomeOf-weaker _ (IsNext q) (λ r (most, like). (at_most_through (fraction r) (fraction last) (fraction end) most up, (pushed (fraction r) q (moved (fraction r) q up down like.0.0) like.0.1, like.1))) numbers
        (so_far.stands q (at_most_through q (fraction end) (fraction last) h down));
  }

  -- past an end that is at least the last
  pub Stands-more : (new : List Rat) → IsAtMost last end → GoesUpTo last end numbers new → Stands (seen ++ end ∷ []) end new
  Stands-more new up (inl (down, is)) = subst (Stands (seen ++ end ∷ []) end) (sym is) (Stands-again up down)
  Stands-more new up (inr (less, (g, (between, is)))) = subst (Stands (seen ++ end ∷ []) end) (sym is) (Stands-next g less between)

-- ---- past the greatest end

module _ (seen : List Rat) (last : Rat) (numbers : List Rat) (so_far : Stands seen last numbers) where
  -- the number is like the fraction at all ends
  abbrev IsRight : Fraction → Rat → Type 0
  IsRight q r = AreLike seen (fraction r) q

  -- a number above the greatest end stands for the fractions above it that are integers like it
  past : (q : Fraction) (r : Rat) → is_at_most q (fraction last) ≡ false → IsLess last r → is_integer (fraction r) ≡ is_integer q → IsRight q r
  past q r above less e = (all_above (fraction r) q (fraction last) seen so_far.most (less_false (fraction last) (fraction r) less) above, e)

  -- the integer above the greatest end stands for the integers above it
  past_integer : (q : Fraction) (k : Option Rat) → is_at_most q (fraction last) ≡ false → is_integer q ≡ true → MatchOption k ⊥ (λ r. IsLess last r × (r.den ≡ 1)) → SomeOf (IsRight q) (option_to_list k)
  past_integer q None above e is = absurd is
  past_integer q (Some r) above e is = inl (past q r above is.0 (den_integer (fraction r) is.1 ∙ sym e))

  -- the numbers above the greatest end stand for all fractions above it
  past_some : (q : Fraction) (g : GapNumbers) → is_at_most q (fraction last) ≡ false → AreAbove last g → SomeOf (IsRight q) (gap_numbers g)
  past_some q g above is = elim (cases_Bool (is_integer q)) [
    | inl e ↦ inr (past_integer q g.integer above e is.integer)
    | inr e ↦ inl (past q g.ratio above is.above (no_integer (fraction g.ratio) is.no_integer ∙ sym e))
  ]

  -- for each fraction there is a number that stands for it
  some_right : (q : Fraction) (g : GapNumbers) → AreAbove last g → SomeOf (IsRight q) (numbers ++ gap_numbers g)
  some_right q g is = elim (cases_Bool (is_at_most q (fraction last))) [
    | inl e ↦ SomeOf-front (IsRight q) numbers (gap_numbers g) (SomeOf-weaker _ (IsRight q) (λ r (most, like). (like.0.1, like.1)) numbers (so_far.stands q e))
    | inr e ↦ SomeOf-back (IsRight q) numbers (gap_numbers g) (past_some q g e is)
  ]

  -- the same, in the words of the contract
  pub AreStandIns-whole : (g : GapNumbers) → AreAbove last g → AreStandIns seen (numbers ++ gap_numbers g)
  AreStandIns-whole g is q = some_contained (IsRight q) (numbers ++ gap_numbers g) (some_right q g is)

-- ---- without ends

-- without ends one integer stands for all
none_integer : (start : Rat) (q : Fraction) (k : Option Rat) → is_integer q ≡ true → MatchOption k ⊥ (λ r. IsLess start r × (r.den ≡ 1)) → SomeOf (λ r. AreLike [] (fraction r) q) (option_to_list k)
none_integer start q None e is = absurd is
none_integer start q (Some r) e is = inl (tt, den_integer (fraction r) is.1 ∙ sym e)

-- a ratio and an integer stand for all
pub AreStandIns-none : (start : Rat) (g : GapNumbers) → AreAbove start g → AreStandIns [] (gap_numbers g)
AreStandIns-none start g is q = some_contained (λ r. AreLike [] (fraction r) q) (gap_numbers g) (elim (cases_Bool (is_integer q)) [
  | inl e ↦ inr (none_integer start q g.integer e is.integer)
  | inr e ↦ inl (tt, no_integer (fraction g.ratio) is.no_integer ∙ sym e)
])

-- ---- how many there are

-- an option holds at most one
count_option : (k : Option Rat) → length (option_to_list k) ≤ 1
count_option None = omega arith
count_option (Some r) = omega arith

-- a gap has at most two numbers
pub count_gap : (g : GapNumbers) → length (gap_numbers g) ≤ 2
count_gap g = let h = count_option g.integer in omega arith

-- each end brings at most three
pub count_more : (last end : Rat) (old new : List Rat) → GoesUpTo last end old new → length new ≤ length old + 3
count_more last end old new (inl (down, is)) = let e = ap length is in omega arith
count_more last end old new (inr (less, (g, (between, is)))) =
    let e = ap length is in
    let f = length-append old (gap_numbers g ++ end ∷ []) in
    let h = length-append (gap_numbers g) (end ∷ []) in
    let k = count_gap g in
    omega arith
