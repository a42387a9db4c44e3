-- Numbers in decimal: their digits, what the code writes, and that no two numbers have one text.
use Rattle.std.proofs.Common.{ℕ, ℤ, pos, negsuc, zero, suc, ◌≡◌, ◌+◌, ◌/◌, ◌%◌, ◌^◌, ◌<◌, ◌≤◌, cond, ◌==◌, List, [], ◌∷◌, ◌++◌, map, codes, decimal, refl, sym, ap, ◌∙◌, arith}
use Rattle.std.specs.Prelude.{unsigned_abs}
use Rattle.std.specs.Fmt.{signed_decimal}
use Rattle.std.specs.Int.Digits.{digits_of}
use Rattle.std.proofs.lemmas.Bool.Decides.{nat_tests}
use Rattle.std.proofs.lemmas.List.{map-append}
use Rattle.std.proofs.lemmas.Fmt.{decimal_by_steps_wide}
use Rattle.std.proofs.lemmas.Int.Digits.{digits_of_step}
use Rattle.ls_object.specs.ObjectText.{natural_text, integer_text}

-- a test that fails picks the second
otherwise : (n : ℕ) (a b : List ℕ) → 0 < n → cond (n == 0) a b ≡ b
otherwise n a b h = grind (arith, nat_tests)

-- the text of a positive number
pub positive_text : (n : ℕ) → 0 < n → natural_text n ≡ map (λ d. 48 + d) (digits_of 10 n)
unfolding natural_text
positive_text n h = otherwise n (codes "0") (map (λ d. 48 + d) (digits_of 10 n)) h

-- a positive number's text ends in its last digit
positive_step : (n : ℕ) → 0 < n → natural_text n ≡ map (λ d. 48 + d) (digits_of 10 (n / 10)) ++ (48 + n % 10) ∷ []
positive_step n h = positive_text n h ∙ ap (map (λ d. 48 + d)) (digits_of_step 10 n (omega arith) h) ∙ map-append (λ d. 48 + d) (digits_of 10 (n / 10)) (n % 10 ∷ [])

-- a number of one digit
one_digit : (n : ℕ) → n < 10 → natural_text n ≡ (48 + n) ∷ []
unfolding natural_text
one_digit zero h = refl
one_digit (suc k) h =
    let quotient : suc k / 10 ≡ 0 = omega arith in
    let rest : suc k % 10 ≡ suc k = omega arith in
    positive_step (suc k) (omega arith) ∙ ap (λ q. map (λ d. 48 + d) (digits_of 10 q) ++ (48 + suc k % 10) ∷ []) quotient ∙ ap (λ r. (48 + r) ∷ []) rest

-- a number of more digits
more_digits : (n : ℕ) (ds : List ℕ) → 10 ≤ n → natural_text (n / 10) ≡ ds → natural_text n ≡ ds ++ (48 + n % 10) ∷ []
more_digits n ds h e =
    positive_step n (omega arith) ∙ ap (λ t. t ++ (48 + n % 10) ∷ []) (sym (positive_text (n / 10) (omega arith)) ∙ e)

-- for a number of at most 64 digits, what std writes
pub natural_text-decimal : (n : ℕ) → n < 10 ^ 64 → natural_text n ≡ decimal n
natural_text-decimal n h = decimal_by_steps_wide (λ k ds. natural_text k ≡ ds) one_digit more_digits n h

-- the same for an integer
pub integer_text-signed_decimal : (z : ℤ) → unsigned_abs z < 10 ^ 64 → integer_text z ≡ signed_decimal z
integer_text-signed_decimal (pos n) h = natural_text-decimal n h
integer_text-signed_decimal (negsuc n) h = ap (λ t. 45 ∷ t) (natural_text-decimal (suc n) h)
