-- The literal of a fraction, and the value of its digits under a cap.
use Rattle.std.proofs.Common.{ℕ, zero, suc, ℤ, pos, negsuc, ◌-ℤ◌, ◌*ℤ◌, to_z, of_z, ◌≡◌, ◌+◌, ◌-◌, ◌*◌, ◌/◌, ◌^◌, ◌<◌, ◌≤◌, Bool, true, false, List, [], ◌∷◌, min, refl, sym, ap, subst, ◌∙◌, arith, nat_le}
use Rattle.std.specs.Prelude.{unsigned_abs, neg_ℤ}
use Rattle.std.specs.Int.{IsGcd}
use Rattle.std.proofs.lemmas.Bool.{leb-true, leb-false, le-leb, and_from, false_from_ne_true, false≢true}
use Rattle.std.proofs.lemmas.Bool.Decides.{nat_tests}
use Rattle.std.proofs.lemmas.Int.{to_z-of_z, to_z_pos, fits_signed_from_abs}
use Rattle.std.proofs.lemmas.Nat.Gcd.{same_from_IsGcd}
use mir.Syntax.{w128}
use Rattle.std.proofs.Math.Bridge.{le_prop}
use Rattle.std.proofs.Math.Nat.{∣_prop, min-eq_left, min-eq_right, mul-div_cancel_left, le-mul_of_pos_right, zero-lt-suc, pos_of_dvd_of_pos}
use Rattle.std.proofs.Math.Path.{path_j}
use Rattle.std.proofs.Math.IntN.{+ℤ_idl, pos-*ℤ-pos, pos-*ℤ-negsuc}
use Rattle.ls_object.proofs.RatLemmas.{same_rat}
use Rattle.ls_object.specs.declared.rat.Rat.{Rat}
use Rattle.ls_reader.specs.contracts.small.SmallRat as contract
use Rattle.ls_reader.specs.declared.small.SmallRat.{SmallRat}
use Rattle.ls_object.specs.Ratio.{IsReduced}
use Rattle.ls_reader.specs.declared.datum.Literal.{Literal}
use Rattle.ls_reader.specs.declared.datum.Literal.TheVariants as literal
use Rattle.ls_reader.specs.CharNames.{is_scalar, scalar}
use Rattle.ls_reader.specs.Fractions.{signed, abs-signed, divisor, rational, small_rational, is_narrow, literal_when, literal_of}
use Rattle.ls_reader.specs.Numbers.{weight, value_on, number, fraction}

-- ---- the reduced fraction

-- whether a number is at least zero
abbrev is_natural : ℤ → Bool
is_natural (pos n) = true
is_natural (negsuc n) = false

-- a number below zero is no natural number
below_zero : (n k : ℕ) → 0 < k → pos n ≡ neg_ℤ (pos k) → ⊥
below_zero n zero p e = absurd (omega arith)
below_zero n (suc k) p e = let both : true ≡ false = ap is_natural e in false≢true (sym both)

-- a factor is the quotient by the other one
quotient : (n g m : ℕ) → 0 < g → n ≡ g * m → n / g ≡ m
quotient n g m p e = ap (λ (k : ℕ). k / g) e ∙ mul-div_cancel_left m p

-- a factor of a numerator is the quotient by the other one
numerator_is : (negative : Bool) (n g : ℕ) (z : ℤ) → 0 < g → signed negative n ≡ (pos g *ℤ z) → z ≡ signed negative (n / g)
numerator_is false n g (pos m) p e =
    let h : n ≡ g * m = ap unsigned_abs (e ∙ pos-*ℤ-pos g m) in ap pos (sym (quotient n g m p h))
numerator_is false n g (negsuc m) p e =
    let some : 0 < g * suc m = omega (arith, p, le-mul_of_pos_right g (zero-lt-suc m)) in absurd (below_zero n (g * suc m) some (e ∙ pos-*ℤ-negsuc g m))
numerator_is true n g (negsuc m) p e =
    let h : n ≡ g * suc m = sym (abs-signed true n) ∙ ap unsigned_abs (e ∙ pos-*ℤ-negsuc g m) ∙ abs-signed true (g * suc m) in
    ap (λ (k : ℕ). neg_ℤ (pos k)) (sym (quotient n g (suc m) p h))
numerator_is true (suc k) g (pos m) p e = absurd (below_zero (g * m) (suc k) (zero-lt-suc k) (sym (pos-*ℤ-pos g m) ∙ sym e))
numerator_is true zero g (pos zero) p e =
    let h : 0 ≡ g * 0 = ap unsigned_abs (e ∙ pos-*ℤ-pos g 0) in ap (λ (k : ℕ). neg_ℤ (pos k)) (sym (quotient 0 g 0 p h))
numerator_is true zero g (pos (suc m)) p e =
    let h : 0 ≡ g * suc m = ap unsigned_abs (e ∙ pos-*ℤ-pos g (suc m)) in absurd (omega (arith, h, p, le-mul_of_pos_right g (zero-lt-suc m)))

-- a reduced fraction is the rational
rational_is : (negative : Bool) (n d : ℕ) (p : 0 < d) (short : n ≤ 2 ^ 64) (small : d ≤ 2 ^ 60) (r : Rat) → IsReduced (signed negative n) d r.num r.den → r ≡ rational negative n d p short small
rational_is negative n d p short small r h =
    let g = h.0 in
    let is : IsGcd n d g = subst (λ (k : ℕ). IsGcd k d g) (abs-signed negative n) h.1.0 in
    let some : 0 < g = pos_of_dvd_of_pos is.1 p in
    let same : g ≡ (divisor n d).0 = same_from_IsGcd n d g (divisor n d).0 is (divisor n d).1 in
    same_rat r (rational negative n d p short small)
    (numerator_is negative n g r.num some h.1.1 ∙ ap (λ (k : ℕ). signed negative (n / k)) same)
    (sym (quotient d g r.den some h.1.2) ∙ ap (λ (k : ℕ). d / k) same)

-- a reduced fraction is within the limits where the fraction is
pub reduced_small : (negative : Bool) (n d : ℕ) → 0 < d → (r : Rat) → IsReduced (signed negative n) d r.num r.den → n ≤ 2 ^ 64 → d ≤ 2 ^ 60 → (unsigned_abs r.num ≤ 2 ^ 64) × (r.den ≤ 2 ^ 60)
reduced_small negative n d p r h short small =
    let s = small_rational negative n d p short small in
    subst (λ (x : Rat). (unsigned_abs x.num ≤ 2 ^ 64) × (x.den ≤ 2 ^ 60)) (sym (rational_is negative n d p short small r h)) (s.num_is_small, s.den_is_small)

-- two numbers within the limits are equal where the rationals are
same_small : (a b : SmallRat) → a.value ≡ b.value → a ≡ b
same_small a b e = contract.the_row.coded.inj a b (cc)

-- by whether the fraction is within the limits
narrow_when : (negative : Bool) (n d : ℕ) (p : 0 < d) (r : SmallRat) → IsReduced (signed negative n) d r.value.num r.value.den → n ≤ 2 ^ 64 → d ≤ 2 ^ 60 → (narrow : Bool) (e : is_narrow n d ≡ narrow) → literal.Value r ≡ literal_when negative n d p narrow e
narrow_when negative n d p r h short small true e =
    ap (λ (x : SmallRat). literal.Value x) (same_small r (small_rational negative n d p _ _) (rational_is negative n d p _ _ r.value h))
narrow_when negative n d p r h short small false e = absurd (false≢true (sym e ∙ and_from _ _ (le-leb n (2 ^ 64) short) (le-leb d (2 ^ 60) small)))

-- the literal of a fraction within the limits is the reduced fraction
pub literal_narrow : (negative : Bool) (n d : ℕ) (p : 0 < d) (r : SmallRat) → IsReduced (signed negative n) d r.value.num r.value.den → n ≤ 2 ^ 64 → d ≤ 2 ^ 60 → literal.Value r ≡ literal_of negative n d p
literal_narrow negative n d p r h short small = narrow_when negative n d p r h short small (is_narrow n d) refl

-- minus n in 128 bits
pub negated : (n : ℕ) → n ≤ 2 ^ 64 → to_z w128 (of_z w128 (pos 0 -ℤ to_z w128 n)) ≡ neg_ℤ (pos n)
negated n h =
    rw (to_z_pos w128 n (omega (arith, h)), +ℤ_idl (neg_ℤ (pos n))) (to_z-of_z w128 (neg_ℤ (pos n)) (fits_signed_from_abs w128 (neg_ℤ (pos n)) (rw (abs-signed true n) (omega (arith, h)))))

-- a numerator in 128 bits
kept : (negative : Bool) (n : ℕ) → n ≤ 2 ^ 64 → to_z w128 (of_z w128 (signed negative n)) ≡ signed negative n
kept negative n h = to_z-of_z w128 (signed negative n) (fits_signed_from_abs w128 (signed negative n) (rw (abs-signed negative n) (omega (arith, h))))

-- what is reduced from the 128 bits of a numerator, and a denominator one above a number
pub reduced_here : (negative : Bool) (n below : ℕ) (z : ℤ) (r : Rat) → z ≡ signed negative n → n ≤ 2 ^ 64 → IsReduced (to_z w128 (of_z w128 z)) (below + 1) r.num r.den → IsReduced (signed negative n) (suc below) r.num r.den
reduced_here negative n below z r e short h =
    let den : below + 1 ≡ suc below = omega arith in
    subst (λ (d : ℕ). IsReduced (signed negative n) d r.num r.den) den
    (subst (λ (y : ℤ). IsReduced y (below + 1) r.num r.den) (ap (λ (y : ℤ). to_z w128 (of_z w128 y)) e ∙ kept negative n short) h)

-- ---- digits under a cap

-- more digits make no less
grows : (base n : ℕ) (cs : List ℕ) → n ≤ value_on (suc base) n cs
grows base n [] = omega arith
grows base n (c ∷ cs) = omega (arith, grows base (n * suc base + weight c) cs, le-mul_of_pos_right n (zero-lt-suc base))

-- past the cap it does not matter what came before
capped_past : (base n : ℕ) (cs : List ℕ) → 2 ^ 64 + 1 ≤ n → min (value_on base (2 ^ 64 + 1) cs) (2 ^ 64 + 1) ≡ min (value_on base n cs) (2 ^ 64 + 1)
capped_past base n [] h = omega (arith, h)
capped_past zero n (c ∷ cs) h =
    let same : (2 ^ 64 + 1) * 0 + weight c ≡ n * 0 + weight c = omega arith in ap (λ (m : ℕ). min (value_on 0 m cs) (2 ^ 64 + 1)) same
capped_past (suc base) n (c ∷ cs) h =
    min-eq_right (grows base (2 ^ 64 + 1) (c ∷ cs)) ∙ sym (min-eq_right (omega (arith, h, grows base n (c ∷ cs))))

-- by whether the value is past the cap
capped_when : (base n : ℕ) (cs : List ℕ) (below : Bool) → nat_le n (2 ^ 64 + 1) ≡ below → min (value_on base (min n (2 ^ 64 + 1)) cs) (2 ^ 64 + 1) ≡ min (value_on base n cs) (2 ^ 64 + 1)
capped_when base n cs true e = rw (min-eq_left (leb-true n (2 ^ 64 + 1) e)) refl
capped_when base n cs false e =
    let above : 2 ^ 64 + 1 ≤ n = omega (arith, leb-false n (2 ^ 64 + 1) e) in rw (min-eq_right above) (capped_past base n cs above)

-- the value under a cap may be kept under it at each digit
pub value_capped : (base n : ℕ) (cs : List ℕ) → min (value_on base (min n (2 ^ 64 + 1)) cs) (2 ^ 64 + 1) ≡ min (value_on base n cs) (2 ^ 64 + 1)
value_capped base n cs = capped_when base n cs (nat_le n (2 ^ 64 + 1)) refl

-- ---- fractions

-- the token of a fraction with a literal
pub fraction_is : (negative : Bool) (n d : ℕ) (l : Literal) → 0 < d → l ≡ literal_of negative n (suc (d - 1)) (zero-lt-suc (d - 1)) → number l ≡ fraction negative n d
fraction_is negative n zero l p h = absurd (omega arith)
fraction_is negative n (suc d) l p h =
    let e : suc d - 1 ≡ d = omega arith in ap number (subst (λ (k : ℕ). l ≡ literal_of negative n (suc k) (zero-lt-suc k)) e h)

-- ---- characters by their codes

-- the code of a character is below the cap
scalar_small : (n : ℕ) → is_scalar n ≡ true → n ≤ 2 ^ 64 + 1
scalar_small n h = grind (arith, nat_tests)

-- by whether the code is past the cap
scalar_when : (n : ℕ) (below : Bool) → nat_le n (2 ^ 64 + 1) ≡ below → scalar (min n (2 ^ 64 + 1)) ≡ scalar n
scalar_when n true e = rw (min-eq_left (leb-true n (2 ^ 64 + 1) e)) refl
scalar_when n false e =
    let above : 2 ^ 64 + 1 ≤ n = omega (arith, leb-false n (2 ^ 64 + 1) e) in
    let none : is_scalar n ≡ false = false_from_ne_true (is_scalar n) (λ h. absurd (omega (arith, scalar_small n h, leb-false n (2 ^ 64 + 1) e))) in
    rw (min-eq_right above, none) refl

-- a code under a cap has the same character
pub scalar_capped : (n : ℕ) → scalar (min n (2 ^ 64 + 1)) ≡ scalar n
scalar_capped n = scalar_when n (nat_le n (2 ^ 64 + 1)) refl
