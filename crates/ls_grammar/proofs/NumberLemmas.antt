-- Integers as rationals.
use Rattle.std.proofs.lemmas.Int.{ints}
use Rattle.std.proofs.Math.Nat.{pow-le-pow_right}
use Rattle.std.proofs.Common.{◌≡◌, ℕ, ℤ, pos, ◌<◌, ◌≤◌, ◌^◌, ◌-ℤ◌, to_z, of_z, Bool, true, false, refl, sym, ◌∙◌, arith, lit≤}
use Rattle.std.specs.Int.{w128}
use Rattle.std.specs.Prelude.{unsigned_abs, nat_lt, neg_ℤ, IfSome}
use Rattle.std.proofs.Math.Dec.{lit<}
use Rattle.std.proofs.lemmas.Bool.{ltb-true, lt-ltb}
use Rattle.ls_object.specs.declared.rat.Rat.{Rat}
use Rattle.ls_object.specs.Limits.{numerator_limit}
use Rattle.ls_object.proofs.RatLemmas.{is_the_integer}
use Rattle.ls_reader.specs.declared.datum.Literal.{Literal}
use Rattle.ls_reader.specs.declared.datum.Literal.TheVariants as literal
use Rattle.ls_spec.specs.Fits.{IsSmall}
use Rattle.ls_grammar.specs.Numbers.{written, whole, whole_if}

apart : (a b : ℕ) → a < b → nat_lt a b ≡ false → ⊥
apart a b h e = let t = lt-ltb a b h in let f : true ≡ false = sym t ∙ e in cc

whole_by : (r : Rat) (z : ℤ) (fits : Bool) (e : nat_lt (unsigned_abs z) numerator_limit ≡ fits) → r.num ≡ z → r.den ≡ 1 → unsigned_abs z < numerator_limit → r ≡ whole_if z fits e
whole_by r z true e num den h = is_the_integer r z (ltb-true (unsigned_abs z) numerator_limit e) num den
whole_by r z false e num den h = absurd (apart (unsigned_abs z) numerator_limit h e)

-- a rational with the denominator 1 is the integer that is its numerator
pub whole_is : (r : Rat) (z : ℤ) → r.num ≡ z → r.den ≡ 1 → unsigned_abs z < numerator_limit → r ≡ whole z
whole_is r z num den h = whole_by r z (nat_lt (unsigned_abs z) numerator_limit) refl num den h

-- a power of two that is at most 2^64
pub small_power : (n : ℕ) → n ≤ 64 → 2 ^ n ≤ 2 ^ 64
small_power n h = pow-le-pow_right {n = 2} (lit< tt) h

-- ---- numbers within the limits

-- a number that is written is small
pub small_written : (n : Literal) → IfSome (written n) IsSmall
small_written (literal.Value small) = (small.num_is_small, small.den_is_small)
small_written literal.Wide = tt

small_whole_if : (z : ℤ) (fits : Bool) (e : nat_lt (unsigned_abs z) numerator_limit ≡ fits) → unsigned_abs z ≤ 2 ^ 64 → IsSmall (whole_if z fits e)
small_whole_if z true e h = (h, lit≤ tt)
small_whole_if z false e h = (lit≤ tt, lit≤ tt)

-- an integer of at most 2^64 in absolute value is small
pub small_whole : (z : ℤ) → unsigned_abs z ≤ 2 ^ 64 → IsSmall (whole z)
small_whole z h = small_whole_if z (nat_lt (unsigned_abs z) numerator_limit) refl h

-- ---- numbers as the code computes them

pub less_one : (z : ℤ) (n : ℕ) → z ≡ pos n → n ≤ 2 ^ 64 → to_z w128 (of_z w128 (to_z w128 (of_z w128 z) -ℤ pos 1)) ≡ pos n -ℤ pos 1
less_one z n e h = omega (arith, ints, e, h)

pub negated : (z : ℤ) (n : ℕ) → z ≡ pos n → n ≤ 2 ^ 64 → to_z w128 (of_z w128 (pos 0 -ℤ to_z w128 (of_z w128 z))) ≡ neg_ℤ (pos n)
negated z n e h = omega (arith, ints, e, h)
