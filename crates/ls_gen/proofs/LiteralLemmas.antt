-- The literal of a natural number.
use Rattle.std.proofs.Common.{ℕ, pos, ◌≡◌, ◌/◌, ◌^◌, ◌<◌, ◌≤◌, Bool, true, false, refl, sym, ap, ◌∙◌, arith}
use Rattle.std.proofs.lemmas.Bool.{and_from, le-leb, false≢true}
use Rattle.std.proofs.Math.Nat.{eq-one_of_dvd-one, div-one}
use Rattle.ls_reader.specs.declared.datum.Literal.{Literal}
use Rattle.ls_reader.specs.declared.datum.Literal.TheVariants as literal
use Rattle.ls_reader.specs.declared.small.SmallRat.{SmallRat}
use Rattle.ls_reader.specs.Fractions.{divisor, is_narrow, small_rational, literal_when, literal_of}

-- the literal is the number, as an integer
abbrev pub IsWhole : ℕ → Literal → Type 0
IsWhole n l = (small : SmallRat) × (l ≡ literal.Value small) × (small.value.num ≡ pos n) × (small.value.den ≡ 1)

-- the greatest divisor of a number and 1
divisor_one : (n : ℕ) → (divisor n 1).0 ≡ 1
divisor_one n = eq-one_of_dvd-one (divisor n 1).1.1

-- by whether the number is within the limits
whole_when : (n : ℕ) (p : 0 < 1) (narrow : Bool) (e : is_narrow n 1 ≡ narrow) → n ≤ 4096
    → IsWhole n (literal_when false n 1 p narrow e)
whole_when n p true e h =
    let num = ap (λ (g : ℕ). pos (n / g)) (divisor_one n) ∙ ap pos (div-one n) in
    (small_rational false n 1 p _ _, refl, num, ap (λ (g : ℕ). 1 / g) (divisor_one n))
whole_when n p false e h =
    absurd (false≢true (sym e ∙ and_from _ _ (le-leb n (2 ^ 64) (omega (arith, h))) (le-leb 1 (2 ^ 60) (omega arith))))

-- a number of at most 4096 is a literal
pub whole_literal : (n : ℕ) (p : 0 < 1) → n ≤ 4096 → IsWhole n (literal_of false n 1 p)
whole_literal n p h = whole_when n p (is_narrow n 1) refl h
