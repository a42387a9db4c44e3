-- The digits of a number.
use Rattle.std.proofs.Common.{ℕ, ◌≡◌, ◌+◌, ◌*◌, ◌%◌, ◌^◌, ◌<◌, ◌≤◌, Bool, true, ◌==◌, List, [], ◌∷◌, ◌++◌, length, map, decimal, refl, ◌∙◌, arith}
use Rattle.std.specs.List.{list_all, range_with_len}
use Rattle.std.specs.Char.{to_ascii_uppercase}
use Rattle.std.proofs.lemmas.Bool.{and_from, and_parts, eqb-true}
use Rattle.std.proofs.lemmas.Fmt.{decimal_by_steps_wide, decimal_nonempty}
use Rattle.ls_reader.specs.Numbers.{weight, value_on, value}
use Rattle.ls_gen.proofs.PassLemmas.{passes_push, range_passes}

-- the digits of a number pass a test that 0 to 9 pass
pub decimal_passes : (p : ℕ → Bool) → list_all p (range_with_len 48 10) ≡ true → (n : ℕ) → n < 10 ^ 64
    → list_all p (decimal n) ≡ true
decimal_passes p e = decimal_by_steps_wide (λ m ds. list_all p ds ≡ true)
    (λ m h. and_from _ _ (range_passes p 48 10 e m h) refl)
    (λ m ds h passes. passes_push p ds (48 + m % 10) passes (range_passes p 48 10 e (m % 10) (omega arith)))

-- a number has a digit
pub decimal_some : (n : ℕ) → n ≤ 4096 → 0 < length (decimal n)
decimal_some n h = decimal_nonempty n (omega (arith, h))

-- digits are in upper case
pub decimal_upper : (n : ℕ) → n ≤ 4096 → map to_ascii_uppercase (decimal n) ≡ decimal n
decimal_upper n h =
    unchanged (decimal n) (decimal_passes (λ c. to_ascii_uppercase c == c) refl n (omega (arith, h)))
  where
    unchanged : (text : List ℕ) → list_all (λ c. to_ascii_uppercase c == c) text ≡ true
        → map to_ascii_uppercase text ≡ text
    unchanged [] e = refl
    unchanged (c ∷ cs) e =
        let both = and_parts (to_ascii_uppercase c == c) (list_all (λ d. to_ascii_uppercase d == d) cs) e in
        let first : to_ascii_uppercase c ≡ c = eqb-true _ _ both.0 in
        cc (first, unchanged cs both.1)

-- the value of digits and one more
value_on-push : (n : ℕ) (ds : List ℕ) (c : ℕ) → value_on 10 n (ds ++ c ∷ []) ≡ value_on 10 n ds * 10 + weight c
value_on-push n [] c = refl
value_on-push n (d ∷ ds) c = value_on-push (n * 10 + weight d) ds c

-- the weight of a digit
weight_is : (k : ℕ) → k < 10 → weight (48 + k) ≡ k
weight_is k h = grind arith

-- the value of the digits of a number is the number
pub decimal_value : (n : ℕ) → n < 10 ^ 64 → value 10 (decimal n) ≡ n
decimal_value = decimal_by_steps_wide (λ m ds. value 10 ds ≡ m)
    (λ m h. omega (arith, weight_is m h))
    (λ m ds h is. value_on-push 0 ds (48 + m % 10) ∙ omega (arith, is, weight_is (m % 10) (omega arith)))
