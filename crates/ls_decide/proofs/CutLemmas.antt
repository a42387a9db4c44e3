-- The cut of a sum, a product or a minimum is that of the cut parts.
use Rattle.std.proofs.Common.{ℕ, zero, suc, min, ◌≡◌, ◌≤◌, ◌<◌, ◌+◌, ◌*◌, ◌^◌, refl, ◌∙◌, ap, arith, Bool, true, false, leb}
use Rattle.std.proofs.lemmas.Bool.{leb-true, leb-false}
use Rattle.ls_decide.specs.steps.Cut.{cut}

pub cut_plus : (m n : ℕ) → cut (cut m + cut n) ≡ cut (m + n)
cut_plus m n = omega arith

pub cut_least : (m n : ℕ) → min (cut m) (cut n) ≡ cut (min m n)
cut_least m n = omega arith

pub cut_low : (n : ℕ) → cut n ≤ 2 ^ 31
cut_low n = omega arith

le_times : (m n : ℕ) → 0 < n → m ≤ m * n
le_times m zero h = absurd (omega arith)
le_times m (suc n) h = grind arith

small_times : (m n : ℕ) → cut m ≡ m → cut n ≡ n → cut (cut m * cut n) ≡ cut (m * n)
small_times m n e f = ap (λ x. cut (x * cut n)) e ∙ ap (λ x. cut (m * x)) f

big_times : (m n : ℕ) → 2 ^ 31 ≤ m → cut (2 ^ 31 * cut n) ≡ cut (m * n)
big_times m zero h = let a : m * zero ≡ 0 = grind arith in omega arith
big_times m (suc n) h =
    let a = le_times m (suc n) (omega arith) in
    let b = le_times (2 ^ 31) (cut (suc n)) (omega arith) in omega arith

pub cut_times : (m n : ℕ) → cut (cut m * cut n) ≡ cut (m * n)
cut_times m n = by (leb m (2 ^ 31)) refl (leb n (2 ^ 31)) refl
  where
    flip : (a b : ℕ) → a * b ≡ b * a
    flip a b = grind arith

    by : (b : Bool) → leb m (2 ^ 31) ≡ b → (c : Bool) → leb n (2 ^ 31) ≡ c → cut (cut m * cut n) ≡ cut (m * n)
    by true e true f = small_times m n (let k = leb-true m (2 ^ 31) e in omega arith) (let k = leb-true n (2 ^ 31) f in omega arith)
    by false e c f = let k = leb-false m (2 ^ 31) e in ap (λ x. cut (x * cut n)) (let i : cut m ≡ 2 ^ 31 = omega arith in i) ∙ big_times m n (omega arith)
    by true e false f = let k = leb-false n (2 ^ 31) f in ap cut (flip (cut m) (cut n)) ∙ ap (λ x. cut (x * cut m)) (let i : cut n ≡ 2 ^ 31 = omega arith in i) ∙ big_times n m (omega arith) ∙ ap cut (flip n m)

-- a product of two cut numbers, and a sum
pub product_is : (a b m n : ℕ) → a ≡ cut m → b ≡ cut n → cut (a * b) ≡ cut (m * n)
product_is a b m n e f = ap (λ x. cut (x * b)) e ∙ ap (λ x. cut (cut m * x)) f ∙ cut_times m n

pub sum_is : (a b m n : ℕ) → a ≡ cut m → b ≡ cut n → cut (a + b) ≡ cut (m + n)
sum_is a b m n e f = ap (λ x. cut (x + b)) e ∙ ap (λ x. cut (cut m + x)) f ∙ cut_plus m n
