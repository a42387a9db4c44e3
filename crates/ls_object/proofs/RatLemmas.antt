-- A rational is determined by its numerator and its denominator.
use Rattle.std.proofs.Common.{ℤ, ◌≡◌, ◌<◌, ◌^◌}
use Rattle.std.specs.Prelude.{unsigned_abs}
use Rattle.ls_object.specs.contracts.rat.Rat as contract
use Rattle.ls_object.specs.declared.rat.Rat.{Rat}
use Rattle.ls_object.specs.Integers.{integer}

-- two rationals with one numerator and one denominator are equal
pub same_rat : (a b : Rat) → a.num ≡ b.num → a.den ≡ b.den → a ≡ b
same_rat a b p q = contract.the_row.coded.inj a b (cc)

-- a rational with the denominator 1 is an integer
pub is_the_integer : (r : Rat) (z : ℤ) (fits : unsigned_abs z < 2 ^ 66) → r.num ≡ z → r.den ≡ 1 → r ≡ integer z fits
is_the_integer r z fits p q = same_rat r (integer z fits) p q
