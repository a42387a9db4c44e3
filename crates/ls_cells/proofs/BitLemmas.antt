-- The bits of single words.
use Rattle.std.proofs.Common.{ℕ, ◌≡◌, ◌≢◌, ◌∙◌, ◌+◌, ◌*◌, ◌-◌, ◌/◌, ◌%◌, ◌<◌, ◌≤◌, ◌^◌, Bool, true, false, not, cond, ◌==◌, ◌&&◌, ◌||◌, nat_lt, arith, ap, sym, refl, w64, ◌⊎◌, inl, inr}
use Rattle.std.specs.Int.{bit_at, bit_not, from_bool, trailing_zeros}
use Rattle.std.specs.Prelude.{bit_and, bit_or, bit_xor, nat_le}
use Rattle.std.proofs.Math.Pow.{pow-lt}
use Rattle.std.proofs.lemmas.Bool.{cases_lt}
use Rattle.std.proofs.lemmas.Bool.Decides.{nat_tests}
use Rattle.std.proofs.lemmas.Nat.{and_le_l}
use Rattle.std.proofs.lemmas.Nat.Bits.{bit_at_and, bit_at_or, bit_at_xor, bit_at_not, bit_at-lt, bit_at-zero, bit_at_ones, bit_at_ones_above, bit_at-trailing_zeros}
use Rattle.ls_cells.specs.Signs.{differ}
use Rattle.ls_cells.specs.steps.Words.{IsIntervalWord, IsNegatedWord}

-- a bit is 0 or 1
pub zero_or_one : (w i : ℕ) → (bit_at w i ≡ 0) ⊎ (bit_at w i ≡ 1)
zero_or_one w i = two (bit_at w i) (bit_at-lt w i)
  where
    two : (x : ℕ) → x < 2 → (x ≡ 0) ⊎ (x ≡ 1)
    two x l = grind arith

-- the word of a single value
pub from_bool_is : (b : Bool) → from_bool b ≡ cond b 1 0
from_bool_is true = refl
from_bool_is false = refl

pub first_bit : (b : Bool) → (bit_at (cond b 1 0) 0 == 1) ≡ b
first_bit true = refl
first_bit false = refl

-- the bits of a conjunction, a disjunction, a difference and a negation
pub and_test : (a b j : ℕ) → (bit_at (bit_and a b) j == 1) ≡ (bit_at a j == 1 && bit_at b j == 1)
and_test a b j = let e = bit_at_and a b j in let p = bit_at-lt a j in let q = bit_at-lt b j in grind (arith, nat_tests)

pub or_test : (a b j : ℕ) → (bit_at (bit_or a b) j == 1) ≡ (bit_at a j == 1 || bit_at b j == 1)
or_test a b j = let e = bit_at_or a b j in let p = bit_at-lt a j in let q = bit_at-lt b j in grind (arith, nat_tests)

pub xor_test : (a b j : ℕ) → (bit_at (bit_xor a b) j == 1) ≡ differ (bit_at a j == 1) (bit_at b j == 1)
xor_test a b j = ap (λ n. n == 1) (bit_at_xor a b j) ∙ values (bit_at a j) (bit_at b j) (zero_or_one a j) (zero_or_one b j)
  where
    values : (x y : ℕ) → (x ≡ 0) ⊎ (x ≡ 1) → (y ≡ 0) ⊎ (y ≡ 1) → ((x + y) % 2 == 1) ≡ differ (x == 1) (y == 1)
    values x y (inl e) (inl f) = rw (e, f) refl
    values x y (inl e) (inr f) = rw (e, f) refl
    values x y (inr e) (inl f) = rw (e, f) refl
    values x y (inr e) (inr f) = rw (e, f) refl

pub not_test : (a j : ℕ) → a < 2 ^ 64 → j < 64 → (bit_at (bit_not w64 a) j == 1) ≡ not (bit_at a j == 1)
not_test a j l m = let e = bit_at_not w64 a j l m in let p = bit_at-lt a j in grind (arith, nat_tests)

-- the word whose bits below a length are set: below the word of its end, at it, and above it
pub full_below : (len k : ℕ) → k < len / 64 → (j : ℕ) → j < 64 → (bit_at (2 ^ 64 - 1) j == 1) ≡ nat_lt (k * 64 + j) len
full_below len k l j m = let b = bit_at_ones 64 j m in let r : k * 64 + j < len = omega arith in grind (arith, nat_tests)

pub full_above : (len k : ℕ) → len / 64 < k → (j : ℕ) → j < 64 → (bit_at 0 j == 1) ≡ nat_lt (k * 64 + j) len
full_above len k l j m = let b = bit_at-zero j in let r : len ≤ k * 64 + j = omega arith in grind (arith, nat_tests)

pub full_at : (len k : ℕ) → len / 64 ≤ k → k ≤ len / 64 → (j : ℕ) → j < 64 → (bit_at (1 * 2 ^ (len % 64) % 2 ^ 64 - 1) j == 1) ≡ nat_lt (k * 64 + j) len
full_at len k l g j m =
    rw (ones (len % 64) (omega arith)) (partial (len % 64) (omega arith) (cases_lt j (len % 64)))
  where
    ones : (r : ℕ) → r < 64 → 1 * 2 ^ r % 2 ^ 64 - 1 ≡ 2 ^ r - 1
    ones r s = let p : 2 ^ r < 2 ^ 64 = pow-lt s in omega arith

    partial : (r : ℕ) → len ≡ k * 64 + r → (j < r) ⊎ (r ≤ j) → (bit_at (2 ^ r - 1) j == 1) ≡ nat_lt (k * 64 + j) len
    partial r e (inl s) = let b = bit_at_ones r j s in let t : k * 64 + j < len = omega arith in grind (arith, nat_tests)
    partial r e (inr s) = let b = bit_at_ones_above r j s in let t : len ≤ k * 64 + j = omega arith in grind (arith, nat_tests)

and_swap : (p q : Bool) → (p && q) ≡ (q && p)
and_swap true true = refl
and_swap true false = refl
and_swap false true = refl
and_swap false false = refl

-- the bits below one length and not below another are those of an interval
pub interval_is : (from to k a b : ℕ) → b < 2 ^ 64 → ((j : ℕ) → j < 64 → (bit_at a j == 1) ≡ nat_lt (k * 64 + j) to) → ((j : ℕ) → j < 64 → (bit_at b j == 1) ≡ nat_lt (k * 64 + j) from)
    → IsIntervalWord from to k (bit_and a (bit_not w64 b))
interval_is from to k a b s p q j l =
    and_test a (bit_not w64 b) j ∙ ap (λ y. bit_at a j == 1 && y) (not_test b j s l ∙ ap not (q j l) ∙ le_test (k * 64 + j) from)
    ∙ ap (λ x. x && nat_le from (k * 64 + j)) (p j l) ∙ and_swap (nat_lt (k * 64 + j) to) (nat_le from (k * 64 + j))
  where
    le_test : (m n : ℕ) → not (nat_lt m n) ≡ nat_le n m
    le_test m n = grind (arith, nat_tests)

-- a negated word, with the bits past a length cleared
pub negated_is : (len k word full : ℕ) → word < 2 ^ 64 → ((j : ℕ) → j < 64 → (bit_at full j == 1) ≡ nat_lt (k * 64 + j) len) → IsNegatedWord len k word (bit_and (bit_not w64 word) full)
negated_is len k word full s p j l =
    and_test (bit_not w64 word) full j ∙ and_swap (bit_at (bit_not w64 word) j == 1) (bit_at full j == 1) ∙ ap (λ x. x && (bit_at (bit_not w64 word) j == 1)) (p j l)
    ∙ ap (λ y. nat_lt (k * 64 + j) len && y) (not_test word j s l)

-- a bit that is set in one word and not in another
pub outside_test : (a b j : ℕ) → b < 2 ^ 64 → j < 64 → (bit_at (bit_and a (bit_not w64 b)) j == 1) ≡ (bit_at a j == 1 && not (bit_at b j == 1))
outside_test a b j l m = and_test a (bit_not w64 b) j ∙ ap (λ y. bit_at a j == 1 && y) (not_test b j l m)

-- a word that is not 0 has a set bit
pub lowest_set : (word : ℕ) → word ≢ 0 → word < 2 ^ 64 → (trailing_zeros w64 word < 64) × ((bit_at word (trailing_zeros w64 word) == 1) ≡ true)
lowest_set word ne small =
    let (low, one, zeros) = bit_at-trailing_zeros w64 word (omega arith) small in
    (low, ap (λ b. b == 1) one)

-- the lowest bit of a word outside another
pub lowest_outside : (a b : ℕ) → bit_and a (bit_not w64 b) ≢ 0 → a < 2 ^ 64 → b < 2 ^ 64
    → (trailing_zeros w64 (bit_and a (bit_not w64 b)) < 64) × ((bit_at a (trailing_zeros w64 (bit_and a (bit_not w64 b))) == 1) ≡ true)
    × ((bit_at b (trailing_zeros w64 (bit_and a (bit_not w64 b))) == 1) ≡ false)
lowest_outside a b ne l m =
    let low = lowest_set (bit_and a (bit_not w64 b)) ne (omega (arith, and_le_l a (bit_not w64 b))) in
    let j : ℕ = trailing_zeros w64 (bit_and a (bit_not w64 b)) in
    let p = parts (bit_at a j == 1) (bit_at b j == 1) (sym (outside_test a b j m low.0) ∙ low.1) in
    (low.0, p.0, p.1)
  where
    parts : (x y : Bool) → (x && not y) ≡ true → (x ≡ true) × (y ≡ false)
    parts true false h = (refl, refl)
    parts true true h = absurd cc
    parts false y h = absurd cc
