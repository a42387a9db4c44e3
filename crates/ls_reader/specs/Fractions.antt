-- The rational of a numerator and a denominator, in lowest terms (2.3.2.1.2). A rational carries the facts that make
-- it one, so its definition has short proofs in it.
use Rattle.std.specs.Prelude.{ℕ, zero, suc, ℤ, pos, neg_ℤ, unsigned_abs, ◌≡◌, ◌<◌, ◌≤◌, ◌^◌, ◌/◌, ◌%◌, Bool, true, false, ◌&&◌, nat_le}
use Rattle.std.specs.Int.{IsGcd}
use Rattle.std.proofs.Common.{lit<, lit≤, refl, sym, subst}
use Rattle.std.proofs.lemmas.Bool.{leb-true, and_parts}
use Rattle.std.proofs.lemmas.Nat.{mod_below}
use Rattle.std.proofs.lemmas.Nat.Gcd.{IsGcd-from_zero, IsGcd-from_mod}
use Rattle.std.proofs.Math.Nat.{le_refl, le_trans, lt_of_le_of_lt, lt_of_lt_of_le, le-pred_of_lt, zero-lt-suc, not-suc-le-zero, pos_of_dvd_of_pos, div-le_self}
use Rattle.ls_object.proofs.GcdLemmas.{IsGcd-reduced, mul-quotient, quotient_positive}
use Rattle.ls_object.specs.declared.rat.Rat.{Rat}
use Rattle.ls_reader.specs.declared.small.SmallRat.{SmallRat}
use Rattle.ls_reader.specs.declared.datum.Literal.{Literal}
use Rattle.ls_reader.specs.declared.datum.Literal.TheVariants as literal

-- n, or minus n
abbrev pub signed : Bool → ℕ → ℤ
signed true n = neg_ℤ (pos n)
signed false n = pos n

-- n and minus n are n away from zero
pub abs-signed : (negative : Bool) (n : ℕ) → unsigned_abs (signed negative n) ≡ n
abs-signed true zero = refl
abs-signed true (suc n) = refl
abs-signed false n = refl

-- two numbers have a greatest common divisor; the second is at most limit
abbrev pub divisor_below : (limit a b : ℕ) → b ≤ limit → (g : ℕ) × IsGcd a b g
divisor_below limit a zero le = (a, IsGcd-from_zero a zero refl)
divisor_below zero a (suc b) le = absurd (not-suc-le-zero le)
divisor_below (suc limit) a (suc b) le =
    let less = le-pred_of_lt (lt_of_lt_of_le (mod_below a (suc b) (zero-lt-suc b)) le) in
    let h = divisor_below limit (suc b) (a % suc b) less in
    (h.0, IsGcd-from_mod a (suc b) h.0 h.1)

-- the greatest common divisor of a numerator and a denominator, and that it is that
abbrev pub divisor : (n d : ℕ) → (g : ℕ) × IsGcd n d g
divisor n d = divisor_below d n d (le_refl d)

-- a denominator divided by it stays positive
pub lowest_positive : (n d g : ℕ) → 0 < d → IsGcd n d g → 0 < d / g
lowest_positive n d g p h = quotient_positive d g (d / g) p (mul-quotient d g (pos_of_dvd_of_pos h.1 p) h.1)

-- a fraction divided by it is in lowest terms
pub lowest_apart : (n d g : ℕ) → 0 < d → IsGcd n d g → IsGcd (n / g) (d / g) 1
lowest_apart n d g p h =
    let q = pos_of_dvd_of_pos h.1 p in
    IsGcd-reduced n d g (n / g) (d / g) q (mul-quotient n g q h.0) (mul-quotient d g q h.1) h

-- The rational n/d or minus n/d: both divided by their greatest common divisor.
abbrev pub rational : (negative : Bool) (n d : ℕ) → 0 < d → n ≤ 2 ^ 64 → d ≤ 2 ^ 60 → Rat
rational negative n d positive short small =
    let g = (divisor n d).0 in
    let is = (divisor n d).1 in
    let size = sym (abs-signed negative (n / g)) in
    record {
      num = signed negative (n / g);
      den = d / g;
      positive = lowest_positive n d g positive is;
      lowest = subst (λ k. IsGcd k (d / g) 1) size (lowest_apart n d g positive is);
      num_fits = subst (λ k. k < 2 ^ 66) size (lt_of_le_of_lt (le_trans (div-le_self n g) short) (lit< tt));
      den_fits = le_trans (div-le_self d g) (le_trans small (lit≤ tt));
    }

-- The same as a number within the limits: what divides a number is no greater.
abbrev pub small_rational : (negative : Bool) (n d : ℕ) → 0 < d → n ≤ 2 ^ 64 → d ≤ 2 ^ 60 → SmallRat
small_rational negative n d positive short small =
    let g = (divisor n d).0 in
    record {
      value = rational negative n d positive short small;
      num_is_small = subst (λ k. k ≤ 2 ^ 64) (sym (abs-signed negative (n / g))) (le_trans (div-le_self n g) short);
      den_is_small = le_trans (div-le_self d g) small;
    }

-- whether a numerator and a denominator, as written, are within the limits of a literal
abbrev pub is_narrow : ℕ → ℕ → Bool
is_narrow n d = nat_le n (2 ^ 64) && nat_le d (2 ^ 60)

-- the literal of n/d or minus n/d, by whether it is within the limits
abbrev pub literal_when : (negative : Bool) (n d : ℕ) → 0 < d → (narrow : Bool) → is_narrow n d ≡ narrow → Literal
literal_when negative n d positive true e =
    let both = and_parts (nat_le n (2 ^ 64)) (nat_le d (2 ^ 60)) e in
    literal.Value (small_rational negative n d positive (leb-true n (2 ^ 64) both.0) (leb-true d (2 ^ 60) both.1))
literal_when negative n d positive false e = literal.Wide

-- the literal of n/d or minus n/d: the rational, if n is at most 2^64 and d at most 2^60
abbrev pub literal_of : (negative : Bool) (n d : ℕ) → 0 < d → Literal
literal_of negative n d positive = literal_when negative n d positive (is_narrow n d) refl
