-- Numbers: no two have one text.
use Rattle.std.proofs.Common.{ℕ, ℤ, pos, negsuc, zero, suc, ◌≡◌, ◌+◌, ◌-◌, ◌<◌, Bool, true, false, cond, ◌==◌, ◌||◌, List, [], ◌∷◌, ◌++◌, map, codes, refl, sym, ap, ◌∙◌, subst, append_assoc, arith}
use Rattle.std.specs.List.{list_all}
use Rattle.std.specs.Int.Digits.{digits_of, number_from_digits, AllBelowBase}
use Rattle.std.proofs.lemmas.Int.Digits.{number_digits_of, all_below_base_digits_of}
use Rattle.std.proofs.lemmas.Bool.{true≢false, and_from, and_parts, or_right, eqb-true}
use Rattle.std.proofs.lemmas.Bool.Decides.{nat_tests}
use Rattle.ls_object.specs.ObjectText.{natural_text, integer_text, ratio_text, number_text, is_digit}
use Rattle.ls_object.proofs.ReadingLemmas.{stops, is_end, same_head, same_tail, same_run, stops-is_end, end_apart}
use Rattle.ls_object.proofs.DecimalLemmas.{positive_text}

-- the number that a decimal text stands for
abbrev value : List ℕ → ℕ
value t = number_from_digits 10 (map (λ c. c - 48) t)

-- digits made characters and read back
read_back : (ds : List ℕ) → map (λ c. c - 48) (map (λ d. 48 + d) ds) ≡ ds
read_back [] = refl
read_back (d ∷ ds) = let first : 48 + d - 48 ≡ d = omega arith in cc (first, read_back ds)

-- a number is read back from its text
value-natural_text : (n : ℕ) → value (natural_text n) ≡ n
unfolding natural_text
value-natural_text zero = refl
value-natural_text (suc n) =
    ap value (positive_text (suc n) (omega arith)) ∙ ap (number_from_digits 10) (read_back (digits_of 10 (suc n))) ∙ number_digits_of 10 (suc n) (omega arith)

-- a digit below ten is a digit as a character
digit_char : (d : ℕ) → d < 10 → is_digit (48 + d) ≡ true
digit_char d h = grind (arith, nat_tests)

all_digit_chars : (ds : List ℕ) → AllBelowBase 10 ds → list_all is_digit (map (λ d. 48 + d) ds) ≡ true
all_digit_chars [] h = refl
all_digit_chars (d ∷ ds) h = and_from (is_digit (48 + d)) (list_all is_digit (map (λ d. 48 + d) ds)) (digit_char d h.0) (all_digit_chars ds h.1)

-- a number's text is digits
natural_digits : (n : ℕ) → list_all is_digit (natural_text n) ≡ true
unfolding natural_text
natural_digits zero = refl
natural_digits (suc n) = ap (list_all is_digit) (positive_text (suc n) (omega arith)) ∙ all_digit_chars (digits_of 10 (suc n)) (all_below_base_digits_of 10 (suc n) (omega arith))

-- two natural numbers, up to a character that is no digit
pub same_natural : (n m : ℕ) (r s : List ℕ) → stops is_digit r ≡ true → stops is_digit s ≡ true → natural_text n ++ r ≡ natural_text m ++ s → (n ≡ m) × (r ≡ s)
same_natural n m r s hr hs e =
    let both = same_run is_digit (natural_text n) (natural_text m) r s (natural_digits n) (natural_digits m) hr hs e in
    (sym (value-natural_text n) ∙ ap value both.0 ∙ value-natural_text m, both.1)

-- a list of characters that all pass begins with one that passes, or is empty
first_passes : (p : ℕ → Bool) (a t : List ℕ) (c : ℕ) (u : List ℕ) → list_all p a ≡ true → (a ≡ [] → ⊥) → a ++ t ≡ c ∷ u → p c ≡ true
first_passes p [] t c u h some e = absurd (some refl)
first_passes p (x ∷ xs) t c u h some e = ap p (sym (same_head x c (xs ++ t) u e)) ∙ (and_parts (p x) (list_all p xs) h).0

-- a number's text isn't empty
natural_some : (n : ℕ) → natural_text n ≡ [] → ⊥
unfolding natural_text
natural_some zero e = absurd (cc)
natural_some (suc n) e = let none : suc n ≡ 0 = sym (value-natural_text (suc n)) ∙ ap value e in absurd (omega arith)

-- it begins with a digit
pub natural_start : (n : ℕ) (t : List ℕ) (c : ℕ) (u : List ℕ) → natural_text n ++ t ≡ c ∷ u → is_digit c ≡ true
natural_start n t c u e = first_passes is_digit (natural_text n) t c u (natural_digits n) (natural_some n) e

-- two integers, up to a character that is no digit
pub same_integer : (y z : ℤ) (r s : List ℕ) → stops is_digit r ≡ true → stops is_digit s ≡ true → integer_text y ++ r ≡ integer_text z ++ s → (y ≡ z) × (r ≡ s)
same_integer (pos n) (pos m) r s hr hs e = let both = same_natural n m r s hr hs e in (ap pos both.0, both.1)
same_integer (pos n) (negsuc m) r s hr hs e = absurd (true≢false (sym (natural_start n r 45 (natural_text (suc m) ++ s) e)))
same_integer (negsuc n) (pos m) r s hr hs e = absurd (true≢false (sym (natural_start m s 45 (natural_text (suc n) ++ r) (sym e))))
same_integer (negsuc n) (negsuc m) r s hr hs e =
    let both = same_natural (suc n) (suc m) r s hr hs (same_tail 45 45 (natural_text (suc n) ++ r) (natural_text (suc m) ++ s) e) in
    let same : n ≡ m = omega (arith, both.0) in
    (ap negsuc same, both.1)

-- a number's text, where it is known whether it is an integer
abbrev number_by : Bool → ℤ → ℕ → List ℕ
number_by b n d = cond b (integer_text n) (ratio_text n d)

-- a ratio's text and what is behind it
ratio_whole : (n : ℤ) (d : ℕ) (t : List ℕ) → ratio_text n d ++ t ≡ integer_text n ++ 47 ∷ (natural_text d ++ t)
ratio_whole n d t = append_assoc (integer_text n ++ codes "/") (natural_text d) t ∙ append_assoc (integer_text n) (codes "/") (natural_text d ++ t)

-- two numbers, by what is known of their denominators
same_number_by : (b c : Bool) (n m : ℤ) (d e : ℕ) (r s : List ℕ) → (d == 1) ≡ b → (e == 1) ≡ c → is_end r ≡ true → is_end s ≡ true → number_by b n d ++ r ≡ number_by c m e ++ s → (n ≡ m) × (d ≡ e) × (r ≡ s)
same_number_by true true n m d e r s hd he hr hs h =
    let both = same_integer n m r s (stops-is_end is_digit r refl refl hr) (stops-is_end is_digit s refl refl hs) h in
    (both.0, eqb-true d 1 hd ∙ sym (eqb-true e 1 he), both.1)
same_number_by true false n m d e r s hd he hr hs h =
    let both = same_integer n m r (47 ∷ (natural_text e ++ s)) (stops-is_end is_digit r refl refl hr) refl (h ∙ ratio_whole m e s) in
    absurd (end_apart r 47 (natural_text e ++ s) hr both.1 refl)
same_number_by false true n m d e r s hd he hr hs h =
    let both = same_integer m n s (47 ∷ (natural_text d ++ r)) (stops-is_end is_digit s refl refl hs) refl (sym h ∙ ratio_whole n d r) in
    absurd (end_apart s 47 (natural_text d ++ r) hs both.1 refl)
same_number_by false false n m d e r s hd he hr hs h =
    let both = same_integer n m (47 ∷ (natural_text d ++ r)) (47 ∷ (natural_text e ++ s)) refl refl (sym (ratio_whole n d r) ∙ h ∙ ratio_whole m e s) in
    let dens = same_natural d e r s (stops-is_end is_digit r refl refl hr) (stops-is_end is_digit s refl refl hs) (same_tail 47 47 (natural_text d ++ r) (natural_text e ++ s) both.1) in
    (both.0, dens.0, dens.1)

-- two numbers with one text, up to the end of an object
pub same_number : (n m : ℤ) (d e : ℕ) (r s : List ℕ) → is_end r ≡ true → is_end s ≡ true → number_text n d ++ r ≡ number_text m e ++ s → (n ≡ m) × (d ≡ e) × (r ≡ s)
same_number n m d e r s hr hs h = same_number_by (d == 1) (e == 1) n m d e r s refl refl hr hs h

-- a character that a number's text begins with
abbrev pub is_number_start : ℕ → Bool
is_number_start c = (c == 45) || is_digit c

integer_start : (z : ℤ) (t : List ℕ) (c : ℕ) (u : List ℕ) → integer_text z ++ t ≡ c ∷ u → is_number_start c ≡ true
integer_start (pos n) t c u e = or_right (c == 45) (is_digit c) (natural_start n t c u e)
integer_start (negsuc n) t c u e = subst (λ y. is_number_start y ≡ true) (same_head 45 c (natural_text (suc n) ++ t) u e) refl

number_start_by : (b : Bool) (n : ℤ) (d : ℕ) (t : List ℕ) (c : ℕ) (u : List ℕ) → number_by b n d ++ t ≡ c ∷ u → is_number_start c ≡ true
number_start_by true n d t c u e = integer_start n t c u e
number_start_by false n d t c u e = integer_start n (47 ∷ (natural_text d ++ t)) c u (sym (ratio_whole n d t) ∙ e)

-- a number begins with a sign or a digit
pub number_start : (n : ℤ) (d : ℕ) (t : List ℕ) (c : ℕ) (u : List ℕ) → number_text n d ++ t ≡ c ∷ u → is_number_start c ≡ true
number_start n d t c u e = number_start_by (d == 1) n d t c u e

-- the front of an empty text is empty
front_empty : (a t : List ℕ) → a ++ t ≡ [] → a ≡ []
front_empty [] t e = refl
front_empty (x ∷ a) t e = absurd (cc e)

integer_some : (z : ℤ) → integer_text z ≡ [] → ⊥
integer_some (pos n) e = natural_some n e
integer_some (negsuc n) e = absurd (cc e)

number_some_by : (b : Bool) (n : ℤ) (d : ℕ) (t : List ℕ) → number_by b n d ++ t ≡ [] → ⊥
number_some_by true n d t e = integer_some n (front_empty (integer_text n) t e)
number_some_by false n d t e = integer_some n (front_empty (integer_text n) (47 ∷ (natural_text d ++ t)) (sym (ratio_whole n d t) ∙ e))

-- a number's text isn't empty
pub number_some : (n : ℤ) (d : ℕ) (t : List ℕ) → number_text n d ++ t ≡ [] → ⊥
number_some n d t e = number_some_by (d == 1) n d t e
