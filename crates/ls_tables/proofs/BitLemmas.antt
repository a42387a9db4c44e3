-- Sets of numbers as bits.
use Rattle.std.proofs.Common.{ℕ, ◌≡◌, ◌≢◌, ◌∙◌, ◌+◌, ◌*◌, ◌-◌, ◌%◌, ◌<◌, ◌≤◌, ◌^◌, false, not, ◌&&◌, ◌||◌, ◌==◌, nat_lt, arith, ap, refl, min, max, w64, ◌⊎◌, inl, inr}
use Rattle.std.specs.Int.{bit_at, trailing_zeros}
use Rattle.std.specs.Prelude.{bit_and, bit_or}
use Rattle.std.specs.Int.RustNames.{bit_xor}
use Rattle.std.proofs.Math.Pow.{pow-lt}
use Rattle.std.proofs.lemmas.Nat.{or_lt}
use Rattle.std.proofs.lemmas.Bool.Decides.{nat_tests}
use Rattle.std.proofs.lemmas.Nat.Bits.{bit_at_and, bit_at_or, bit_at_xor, bit_at-lt, bit_at_ones, bit_at_above, bit_at_set_same, bit_at_set_other, bit_at-trailing_zeros, same_from_bits_below}
use Rattle.ls_tables.specs.Sets.{is_in, IsLeast, HaveSameMembers}

-- the greater of two bits is 1 where either is
or_bits : (x y : ℕ) → x < 2 → y < 2 → (max x y == 1) ≡ (x == 1 || y == 1)
or_bits x y l k = grind arith

-- the lesser of two bits is 1 where both are
and_bits : (x y : ℕ) → x < 2 → y < 2 → (min x y == 1) ≡ (x == 1 && y == 1)
and_bits x y l k = grind arith

-- a bit is 0 or 1
two : (x : ℕ) → x < 2 → (x ≡ 0) ⊎ (x ≡ 1)
two x l = grind arith

-- a bit turned
flip : (x : ℕ) → (x ≡ 0) ⊎ (x ≡ 1) → ((x + 1) % 2 == 1) ≡ not (x == 1)
flip x (inl e) = rw e
flip x (inr e) = rw e

-- the numbers of either set
pub is_in-or : (a b i : ℕ) → is_in (bit_or a b) i ≡ (is_in a i || is_in b i)
is_in-or a b i = ap (λ n. n == 1) (bit_at_or a b i) ∙ or_bits _ _ (bit_at-lt a i) (bit_at-lt b i)

-- the numbers of both sets
pub is_in-and : (a b i : ℕ) → is_in (bit_and a b) i ≡ (is_in a i && is_in b i)
is_in-and a b i = ap (λ n. n == 1) (bit_at_and a b i) ∙ and_bits _ _ (bit_at-lt a i) (bit_at-lt b i)

-- no number from n on is in a set of numbers below n
pub is_in_above : (a n i : ℕ) → a < 2 ^ n → n ≤ i → is_in a i ≡ false
is_in_above a n i h l = ap (λ k. k == 1) (bit_at_above a n i h l)

-- below n, all bits turned
turned_below : (a n i : ℕ) → i < n → is_in (bit_xor a (2 ^ n - 1)) i ≡ not (is_in a i)
turned_below a n i l = ap (λ k. k == 1) (bit_at_xor a (2 ^ n - 1) i) ∙ ap (λ k. (bit_at a i + k) % 2 == 1) (bit_at_ones n i l) ∙ flip _ (two _ (bit_at-lt a i))

-- a number is below another or not
below_or_not : (k n : ℕ) → (k < n) ⊎ (n ≤ k)
below_or_not k n = grind arith

-- of a set c with all bits of a turned
complement_cases : (a c n i : ℕ) → c < 2 ^ n → is_in c i ≡ is_in (bit_xor a (2 ^ n - 1)) i → (i < n) ⊎ (n ≤ i) → is_in c i ≡ (nat_lt i n && not (is_in a i))
complement_cases a c n i h e (inl l) = let t = turned_below a n i l in grind (arith, nat_tests)
complement_cases a c n i h e (inr l) = let t = is_in_above c n i h l in grind (arith, nat_tests)

-- the numbers below n that are not in a set
pub is_in-complement : (a n i : ℕ) → bit_xor a (2 ^ n - 1) < 2 ^ n → is_in (bit_xor a (2 ^ n - 1)) i ≡ (nat_lt i n && not (is_in a i))
is_in-complement a n i h = complement_cases a (bit_xor a (2 ^ n - 1)) n i h refl (below_or_not i n)

-- the same by cases
set_cases : (a i k : ℕ) → i < 64 → (k ≡ i) ⊎ (k ≢ i) → is_in (bit_or a (1 * 2 ^ i % 2 ^ 64)) k ≡ (is_in a k || k == i)
set_cases a i k l (inl e) = let f = bit_at_set_same w64 a i l in rw e (grind arith)
set_cases a i k l (inr n) = let f = bit_at_set_other w64 a i l k n in grind arith

-- two numbers are equal or not
either : (k i : ℕ) → (k ≡ i) ⊎ (k ≢ i)
either k i = grind arith

-- a set with one number besides
pub is_in-set : (a i k : ℕ) → i < 64 → is_in (bit_or a (1 * 2 ^ i % 2 ^ 64)) k ≡ (is_in a k || k == i)
is_in-set a i k l = set_cases a i k l (either k i)

-- it has numbers below n
pub set_lt : (a i n : ℕ) → i < n → n ≤ 64 → a < 2 ^ n → bit_or a (1 * 2 ^ i % 2 ^ 64) < 2 ^ n
set_lt a i n l m h =
    let p : 2 ^ i < 2 ^ n = pow-lt l in
    let q : 1 * 2 ^ i % 2 ^ 64 ≤ 1 * 2 ^ i = omega arith in
    or_lt n a _ h (omega arith)

-- the lowest bit of a set that is not empty
pub is_least : (a n : ℕ) → 0 < a → a < 2 ^ n → a < 2 ^ 64 → IsLeast n a (trailing_zeros w64 a)
is_least a n p h w =
    let (low, one, zeros) = bit_at-trailing_zeros w64 a p w in
    record {
      within = elim (below_or_not (trailing_zeros w64 a) n) [
        | inl l ↦ l
        | inr l ↦ let zero = bit_at_above a n (trailing_zeros w64 a) h l in absurd (cc)
      ];
      has = ap (λ k. k == 1) one;
      least = λ k l. ap (λ b. b == 1) (zeros k l);
    }

-- a bit for each member
same_bits : (a b k : ℕ) → is_in a k ≡ is_in b k → bit_at a k ≡ bit_at b k
same_bits a b k e = let p = bit_at-lt a k in let q = bit_at-lt b k in grind (arith, nat_tests)

-- two sets of numbers below n with the same members have the same bits
pub same_members : (n a b : ℕ) → a < 2 ^ n → b < 2 ^ n → HaveSameMembers n a b → a ≡ b
same_members n a b p q e = same_from_bits_below n a b p q (λ k l. same_bits a b k (e k l))
