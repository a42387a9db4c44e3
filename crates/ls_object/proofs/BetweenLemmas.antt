-- The mediant of two ratios, in lowest terms, and integers between ratios.
use Rattle.std.proofs.Common.{ℕ, ℤ, pos, ◌≡◌, ◌+◌, ◌*◌, ◌<◌, ◌≤◌, ◌+ℤ◌, ◌*ℤ◌, ◌<ℤ◌, ◌≤ℤ◌, ap, subst, inl, inr, arith}
use Rattle.std.proofs.lemmas.Int.{ints, by_lt_z}
use Rattle.std.proofs.Math.Nat.{mul-le-mul_left, div-le_self}
use borrow.Author.Differences.{up, down}
use Rattle.ls_object.specs.Ratio.{IsLessRatio, IsReduced, PassesLimits}
use Rattle.ls_object.specs.declared.rat.TheConstants.{NUMERATOR_LIMIT, DENOMINATOR_LIMIT}

-- a sum times a natural number
times : (a c : ℤ) (n : ℕ) → up (a +ℤ c) * n + down a * n + down c * n ≡ down (a +ℤ c) * n + up a * n + up c * n
times a c n =
    let e : up (a +ℤ c) + down a + down c ≡ down (a +ℤ c) + up a + up c = omega (arith, ints) in
    omega (arith, ap (λ t. t * n) e)

-- the mediant is above the lower ratio
pub mediant_above : (a c : ℤ) (b d : ℕ) → IsLessRatio a b c d → IsLessRatio a b (a +ℤ c) (b + d)
mediant_above a c b d h = omega (arith, ints, times a c b)

-- and below the upper one
pub mediant_below : (a c : ℤ) (b d : ℕ) → IsLessRatio a b c d → IsLessRatio (a +ℤ c) (b + d) c d
mediant_below a c b d h = omega (arith, ints, times a c d)

-- a product times a natural number
scaled : (n : ℤ) (g b : ℕ) → up (pos g *ℤ n) * b + g * down n * b ≡ down (pos g *ℤ n) * b + g * up n * b
scaled n g b =
    let e : up (pos g *ℤ n) + g * down n ≡ down (pos g *ℤ n) + g * up n = omega (arith, ints) in
    omega (arith, ap (λ t. t * b) e)

-- a common factor says nothing of the order: above
pub factor_above : (a n : ℤ) (b d g : ℕ) → IsLessRatio a b (pos g *ℤ n) (g * d) → IsLessRatio a b n d
factor_above a n b d g h =
    by_lt_z (a *ℤ pos d) (n *ℤ pos b) (λ k. k) (λ k.
    let e : up n * b + down a * d ≤ up a * d + down n * b = omega (arith, ints) in
    absurd (omega (arith, ints, scaled n g b, mul-le-mul_left g e)))

-- and below
pub factor_below : (a n : ℤ) (b d g : ℕ) → IsLessRatio (pos g *ℤ n) (g * d) a b → IsLessRatio n d a b
factor_below a n b d g h =
    by_lt_z (n *ℤ pos b) (a *ℤ pos d) (λ k. k) (λ k.
    let e : up a * d + down n * b ≤ up n * b + down a * d = omega (arith, ints) in
    absurd (omega (arith, ints, scaled n g b, mul-le-mul_left g e)))

-- in lowest terms a fraction is above what it was above
pub reduced_above : (a p n : ℤ) (b q d : ℕ) → IsReduced p q n d → IsLessRatio a b p q → IsLessRatio a b n d
reduced_above a p n b q d (g, (is_gcd, e, f)) h =
    factor_above a n b d g (subst (λ t. IsLessRatio a b t (g * d)) e (subst (λ t. IsLessRatio a b p t) f h))

-- and below what it was below
pub reduced_below : (a p n : ℤ) (b q d : ℕ) → IsReduced p q n d → IsLessRatio p q a b → IsLessRatio n d a b
reduced_below a p n b q d (g, (is_gcd, e, f)) h =
    factor_below a n b d g (subst (λ t. IsLessRatio t (g * d) a b) e (subst (λ t. IsLessRatio p t a b) f h))

-- a fraction with small parts is within the limits
pub small_parts : (a b : ℕ) → a < NUMERATOR_LIMIT → b ≤ DENOMINATOR_LIMIT → PassesLimits a b → ⊥
small_parts a b p q (g, (is_gcd, past)) =
    elim past as (λ _. ⊥) [ inl far ↦ absurd (omega (arith, div-le_self a g)) | inr far ↦ absurd (omega (arith, div-le_self b g)) ]

-- no integer is strictly between a/b and an integer that is at most one more
pub none_before_next : (a next k : ℤ) (b : ℕ) → (next *ℤ pos b) ≤ℤ (a +ℤ pos b) → IsLessRatio a b k 1 → k <ℤ next → ⊥
none_before_next a next k b least h less =
    let e : up k + down next + 1 ≤ up next + down k = omega (arith, ints) in
    omega (arith, ints, mul-le-mul_left b e)

-- an integer below a ratio that is at most another integer is below that
pub less_of_ratio : (next k n : ℤ) (d : ℕ) → n ≤ℤ (next *ℤ pos d) → IsLessRatio k 1 n d → k <ℤ next
less_of_ratio next k n d most h =
    by_lt_z k next (λ e. e) (λ past.
    let e : up next + down k ≤ up k + down next = omega (arith, ints) in
    absurd (omega (arith, ints, mul-le-mul_left d e)))

-- what is below an integer is below what is above it
pub less_past_integer : (m next n : ℤ) (d e : ℕ) → 0 < d → IsLessRatio m d next 1 → (next *ℤ pos e) <ℤ n → IsLessRatio m d n e
less_past_integer m next n d e positive below above =
    let first : up m + down next * d ≤ up next * d + down m = omega (arith, ints) in
    let second : up next * e + down n + 1 ≤ up n + down next * e = omega (arith, ints) in
    omega (arith, ints, mul-le-mul_left e first, mul-le-mul_left d second)
