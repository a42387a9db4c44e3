use Rattle.std.proofs.Common.{ℕ, ap, ◌≤ℤ◌, ℤ, pos, negsuc, ◌≡◌, ◌<◌, ◌≤◌, ◌/◌, ◌*◌, ◌+◌, ◌-ℤ◌, ◌*ℤ◌, ◌<ℤ◌, sym, subst, arith}
use Rattle.std.specs.Int.{int_div_euclid}
use Rattle.std.proofs.lemmas.Int.{ints}
use Rattle.std.proofs.Math.Nat.{suc-mul}
use borrow.Author.Differences.{up, down}
use Rattle.ls_points.proofs.numbers.integer_below.Goals as goal

-- the quotient times the divisor is at most the number
floor_most : (n : ℤ) (d : ℕ) → 0 < d → (int_div_euclid n (pos d) *ℤ pos d) ≤ℤ n
floor_most (pos a) d positive = let e : d * (a / d) ≤ a = omega arith in omega (arith, ints)
floor_most (negsuc a) d positive = let e : a < d * (a / d) + d = omega arith in omega (arith, ints, suc-mul (a / d) d)

-- one less than a number, times a positive one, is below its product
less_by_one : (k n : ℤ) (d : ℕ) → 0 < d → (k *ℤ pos d) ≤ℤ n → ((k -ℤ pos 1) *ℤ pos d) <ℤ n
less_by_one k n d positive most =
    let e : up (k -ℤ pos 1) + down k + 1 ≡ down (k -ℤ pos 1) + up k = omega (arith, ints) in
    omega (arith, ints, ap (λ t. t * d) e)

pub returns-clause-below : goal.returns-clause-below
returns-clause-below c =
    let r = c.args.r.now in
    let h = less_by_one (int_div_euclid r.num (pos r.den)) r.num r.den r.positive (floor_most r.num r.den r.positive) in
    let e : c.integer.result.num ≡ (int_div_euclid r.num (pos r.den) -ℤ pos 1) = grind (arith, ints) in
    let f = subst (λ k. (k *ℤ pos r.den) <ℤ r.num) (sym e) h in
    omega (arith, ints)
