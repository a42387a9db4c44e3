-- The order of fractions.
use Rattle.std.proofs.Common.{ℕ, zero, suc, ℤ, pos, unsigned_abs, ◌≡◌, ◌+◌, ◌-◌, ◌*◌, ◌<◌, ◌≤◌, ◌*ℤ◌, ◌≤ℤ◌, inl, inr, refl, ap, sym, subst, ◌∙◌, Bool, true, false, not, true≢false, arith}
use Rattle.std.specs.Int.{IsGcd}
use Rattle.std.specs.Ordering.{is_lt}
use Rattle.std.specs.Cmp.{IsStrictWeakOrder}
use Rattle.std.proofs.lemmas.Bool.{cases_order, cases_Bool}
use Rattle.std.proofs.lemmas.Bool.Decides.{Decides-eqb}
use Rattle.std.proofs.lemmas.Int.{ints, by_lt_z, unsigned_abs-mul}
use Rattle.std.proofs.lemmas.Nat.Gcd.{IsGcd-swap, IsGcd-from_sub, IsGcd-from_zero, same_from_IsGcd, dvd_antisymm}
use Rattle.std.proofs.Math.Nat.{mul-le-mul_left, mul-sub, mul_comm, dvd-mul_left, dvd-mul_right, dvd-sub}
use Prim.Native.Nat.{◌∣◌}
use borrow.Author.Differences.{up, down}
use Rattle.ls_object.specs.Ratio.{IsLessRatio, ratio_cmp}
use Rattle.ls_object.specs.declared.rat.Rat.{Rat}
use Rattle.ls_spec.proofs.TruthLemmas.{Decides-int_le}
use Rattle.ls_points.specs.steps.Numbers.{Fraction, fraction, is_at_most, is_integer, IsAtMost, is_less}

-- ---- total and transitive

-- of two fractions one is at most the other
pub at_most_total : (a b : Fraction) → is_at_most a b ≡ false → is_at_most b a ≡ true
at_most_total a b h = grind arith

-- a fraction is at most itself
pub at_most_itself : (a : Fraction) → is_at_most a a ≡ true
at_most_itself a = grind arith

-- the order goes through a fraction in between, by cross products
through : (m n p : ℤ) (b d f : ℕ) → 0 < d → (m *ℤ pos d) ≤ℤ (n *ℤ pos b) → (n *ℤ pos f) ≤ℤ (p *ℤ pos d) → (m *ℤ pos f) ≤ℤ (p *ℤ pos b)
through m n p b d f positive first second =
    by_lt_z (p *ℤ pos b) (m *ℤ pos f) (λ past.
    let x : up m * d + down n * b ≤ up n * b + down m * d = omega (arith, ints) in
    let y : up n * f + down p * d ≤ up p * d + down n * f = omega (arith, ints) in
    let z : up p * b + down m * f + 1 ≤ up m * f + down p * b = omega (arith, ints) in
    absurd (omega (arith, mul-le-mul_left f x, mul-le-mul_left b y, mul-le-mul_left d z))) (λ k. k)

-- the order is transitive
pub at_most_through : (a b c : Fraction) → is_at_most a b ≡ true → is_at_most b c ≡ true → is_at_most a c ≡ true
at_most_through a b c h k =
    (Decides-int_le (a.num *ℤ pos c.den) (c.num *ℤ pos a.den)).1 (through a.num b.num c.num a.den b.den c.den b.positive ((Decides-int_le (a.num *ℤ pos b.den) (b.num *ℤ pos a.den)).0 h) ((Decides-int_le (b.num *ℤ pos c.den) (c.num *ℤ pos b.den)).0 k))

-- fractions with equal parts are equal in the order
pub at_most_same : (a b : Fraction) → a.num ≡ b.num → a.den ≡ b.den → is_at_most a b ≡ true
at_most_same a b e f =
    let g : (a.num *ℤ pos b.den) ≡ (b.num *ℤ pos a.den) = ap (λ n. n *ℤ pos b.den) e ∙ ap (λ d. b.num *ℤ pos d) (sym f) in
    (Decides-int_le (a.num *ℤ pos b.den) (b.num *ℤ pos a.den)).1 (omega (arith, ints))

-- ---- equal in order, equal in lowest terms

-- of two numbers the one is less, or the other is at most it
by_order : {P : Type 0} (a b : ℕ) → (a < b → P) → (b ≤ a → P) → P
by_order a b f g = elim (cases_order a b) [ inl e ↦ g (omega arith) | inr (inl l) ↦ f l | inr (inr l) ↦ g (omega arith) ]

-- a difference times a number
difference : (a b k : ℕ) → (a - b) * k ≡ a * k - b * k
difference a b k = let e = mul-sub k a b in let x = mul_comm (a - b) k in let y = mul_comm a k in let z = mul_comm b k in cc

-- a common divisor of two multiples of k divides k times a greatest common divisor
scaled : (fuel a b d k : ℕ) → a + b ≤ fuel → d ∣ a * k → d ∣ b * k → (g : ℕ) × (IsGcd a b g × (d ∣ g * k))
scaled zero a b d k l x y = (a, (IsGcd-from_zero a b (omega arith), x))
scaled (suc fuel) a zero d k l x y = (a, (IsGcd-from_zero a zero refl, x))
scaled (suc fuel) zero (suc b) d k l x y = (suc b, (IsGcd-swap (suc b) zero (suc b) (IsGcd-from_zero (suc b) zero refl), y))
scaled (suc fuel) (suc a) (suc b) d k l x y = by_order (suc a) (suc b)
    (λ less.
    let down : d ∣ (suc b - suc a) * k = subst (λ n. d ∣ n) (sym (difference (suc b) (suc a) k)) (dvd-sub d y x) in
    let (g, (is, divides)) = scaled fuel (suc b - suc a) (suc a) d k (omega arith) down x in
    (g, (IsGcd-swap (suc b) (suc a) g (IsGcd-from_sub (suc b) (suc a) g (omega arith) is), divides)))
    (λ most.
    let down : d ∣ (suc a - suc b) * k = subst (λ n. d ∣ n) (sym (difference (suc a) (suc b) k)) (dvd-sub d x y) in
    let (g, (is, divides)) = scaled fuel (suc a - suc b) (suc b) d k (omega arith) down y in
    (g, (IsGcd-from_sub (suc a) (suc b) g most is, divides)))

-- what divides a multiple of two numbers without a common divisor divides the factor
factor : (a b d k : ℕ) → IsGcd a b 1 → d ∣ a * k → d ∣ b * k → d ∣ k
factor a b d k h x y =
    let (g, (is, divides)) = scaled (a + b) a b d k (omega arith) x y in
    let e : g * k ≡ k = ap (λ n. n * k) (same_from_IsGcd a b g 1 is h) ∙ omega arith in
    subst (λ n. d ∣ n) e divides

-- two fractions in lowest terms with equal cross products have equal denominators
same_dens : (a b c d : ℕ) → IsGcd a b 1 → IsGcd c d 1 → a * d ≡ c * b → b ≡ d
same_dens a b c d h k e = dvd_antisymm
    (factor a b b d h (subst (λ n. b ∣ n) (sym e) (dvd-mul_left b c)) (dvd-mul_right b d))
    (factor c d d b k (subst (λ n. d ∣ n) e (dvd-mul_left d a)) (dvd-mul_right d b))

-- equal products with a positive factor have equal other factors
same_nums : (m n : ℤ) (d : ℕ) → 0 < d → (m *ℤ pos d) ≡ (n *ℤ pos d) → m ≡ n
same_nums m n d positive e =
    by_lt_z m n (λ less.
    let f : up m + down n + 1 ≤ up n + down m = omega (arith, ints) in
    absurd (omega (arith, ints, mul-le-mul_left d f))) (λ most.
    by_lt_z n m (λ less.
    let f : up n + down m + 1 ≤ up m + down n = omega (arith, ints) in
    absurd (omega (arith, ints, mul-le-mul_left d f))) (λ least. omega (arith, ints)))

-- fractions that are equal in the order have equal parts
pub at_most_equal : (a b : Fraction) → is_at_most a b ≡ true → is_at_most b a ≡ true → (a.num ≡ b.num) × (a.den ≡ b.den)
at_most_equal a b h k =
    let x = (Decides-int_le (a.num *ℤ pos b.den) (b.num *ℤ pos a.den)).0 h in
    let y = (Decides-int_le (b.num *ℤ pos a.den) (a.num *ℤ pos b.den)).0 k in
    let e : (a.num *ℤ pos b.den) ≡ (b.num *ℤ pos a.den) = omega (arith, ints) in
    let f : unsigned_abs a.num * b.den ≡ unsigned_abs b.num * a.den = sym (unsigned_abs-mul a.num (pos b.den)) ∙ ap unsigned_abs e ∙ unsigned_abs-mul b.num (pos a.den) in
    let dens = same_dens (unsigned_abs a.num) a.den (unsigned_abs b.num) b.den a.lowest b.lowest f in
    (same_nums a.num b.num a.den a.positive (subst (λ n. (a.num *ℤ pos n) ≡ (b.num *ℤ pos a.den)) (sym dens) e), dens)

-- ---- less, in parts and as the test

-- less is not at least
pub less_false : (a b : Fraction) → IsLessRatio a.num a.den b.num b.den → is_at_most b a ≡ false
less_false a b h = grind arith

-- what is not at least is less
pub false_less : (a b : Fraction) → is_at_most b a ≡ false → IsLessRatio a.num a.den b.num b.den
false_less a b h = grind arith

-- what is equal or below, and not equal or above, a third
pub not_at_most : (a b c : Fraction) → is_at_most a b ≡ true → is_at_most c b ≡ false → is_at_most c a ≡ false
not_at_most a b c h k = elim (cases_Bool (is_at_most c a)) [ inl e ↦ absurd (true≢false (sym (at_most_through c a b e h) ∙ k)) | inr e ↦ e ]

-- what is not at most a fraction is not at most one below it
pub not_at_most_past : (a b c : Fraction) → is_at_most b c ≡ true → is_at_most b a ≡ false → is_at_most c a ≡ false
not_at_most_past a b c h k = elim (cases_Bool (is_at_most c a)) [ inl e ↦ absurd (true≢false (sym (at_most_through b c a h e) ∙ k)) | inr e ↦ e ]

-- an integer has the denominator 1
pub integer_den : (a : Fraction) → is_integer a ≡ true → a.den ≡ 1
integer_den a h = (Decides-eqb a.den 1).0 h

-- a fraction with the denominator 1 is an integer
pub den_integer : (a : Fraction) → a.den ≡ 1 → is_integer a ≡ true
den_integer a h = (Decides-eqb a.den 1).1 h

-- one with another denominator is none
pub no_integer : (a : Fraction) → (a.den ≡ 1 → ⊥) → is_integer a ≡ false
no_integer a h = elim (cases_Bool (is_integer a)) [ inl e ↦ absurd (h (integer_den a e)) | inr e ↦ e ]

-- ---- sorting

-- the order in which the ends are compared is that of the test
pub cmp_less : (a b : Rat) → is_lt (ratio_cmp a.num a.den b.num b.den) ≡ is_less a b
cmp_less a b = grind arith

-- a test whose negation is true is false
not_true : (b : Bool) → not b ≡ true → b ≡ false
not_true true h = sym h
not_true false h = refl

-- a test whose negation is false is true
not_false : (b : Bool) → not b ≡ false → b ≡ true
not_false true h = refl
not_false false h = absurd (true≢false h)

-- it is an order in which any two compare
pub is_less_order : IsStrictWeakOrder is_less
is_less_order = record {
  one_way = λ x y h. ap not (at_most_total (fraction y) (fraction x) (not_true _ h));
  chain = λ x y z h k. ap not (at_most_through (fraction z) (fraction y) (fraction x) (not_false _ k) (not_false _ h));
}

-- neighbours of a sorted list
pub neighbour : (a b : Rat) → is_less b a ≡ false → IsAtMost a b
neighbour a b h = not_false _ h
