-- Characters: no two have one text.
use Rattle.std.proofs.Common.{ℕ, zero, suc, ◌≡◌, ◌+◌, ◌-◌, ◌*◌, ◌/◌, ◌%◌, ◌^◌, ◌<◌, Bool, true, false, not, cond, nat_lt, ◌==◌, ◌&&◌, if◌then◌else◌, List, [], ◌∷◌, ◌++◌, codes, inl, inr, refl, sym, ap, ◌∙◌, subst, arith, lit<}
use Rattle.std.specs.List.{list_all}
use Rattle.std.specs.Char.{IsScalar}
use Rattle.std.proofs.Math.Utf8.{scalar_cases}
use Rattle.std.proofs.Math.Nat.{pow-suc}
use Rattle.std.proofs.lemmas.Nat.{div_below}
use Rattle.std.proofs.lemmas.Bool.{true≢false, cond_both, and_from, eqb-true}
use borrow.Author.Tests.{ltb-true}
use Rattle.std.proofs.lemmas.Bool.Decides.{nat_tests}
use Rattle.std.proofs.lemmas.List.Folds.{list_all-append}
use Rattle.ls_object.specs.ObjectText.{is_text, hexadecimal_digit, hexadecimal, code_digits, character_name, character_text}
use Rattle.ls_object.proofs.ReadingLemmas.{is_end, is_end_char, same_head, same_tail, same_run, stops-is_end}

-- the value of a hexadecimal digit with capital letters
abbrev hexadecimal_value : ℕ → ℕ
hexadecimal_value c = if nat_lt c 58 then c - 48 else c - 55

-- the number that hexadecimal digits stand for, behind digits that stand for n
abbrev value_after : ℕ → List ℕ → ℕ
value_after n [] = n
value_after n (c ∷ cs) = value_after (n * 16 + hexadecimal_value c) cs

-- one digit more
value_after-push : (n : ℕ) (cs : List ℕ) (c : ℕ) → value_after n (cs ++ c ∷ []) ≡ value_after n cs * 16 + hexadecimal_value c
value_after-push n [] c = refl
value_after-push n (d ∷ cs) c = value_after-push (n * 16 + hexadecimal_value d) cs c

-- a digit is read back
hexadecimal_value-digit : (d : ℕ) → d < 16 → hexadecimal_value (hexadecimal_digit d) ≡ d
hexadecimal_value-digit d h = grind (arith, nat_tests)

-- a number is read back from its hexadecimal digits
value_after-hexadecimal : (count n : ℕ) → n < 16 ^ count → value_after 0 (hexadecimal count n) ≡ n
value_after-hexadecimal zero n h = omega arith
value_after-hexadecimal (suc count) n h =
    let below : n / 16 < 16 ^ count = div_below n 16 (16 ^ count) (lit< tt) (subst (λ t. n < t) (pow-suc 16 count) h) in
    let front = value_after-hexadecimal count (n / 16) below in
    let last = hexadecimal_value-digit (n % 16) (omega arith) in
    value_after-push 0 (hexadecimal count (n / 16)) (hexadecimal_digit (n % 16)) ∙ omega (arith, front, last)

-- the digits of a character's code are enough
enough_digits : (c : ℕ) → c < 1114112 → c < 16 ^ code_digits c
enough_digits c h =
    cond_both (nat_lt c (16 ^ 4)) 4 (cond (nat_lt c (16 ^ 5)) 5 6) (λ k. c < 16 ^ k)
    (λ e. omega (arith, ltb-true c (16 ^ 4) e))
    (λ e. cond_both (nat_lt c (16 ^ 5)) 5 6 (λ k. c < 16 ^ k) (λ f. omega (arith, ltb-true c (16 ^ 5) f)) (λ f. omega arith))

-- the character that a name of several characters stands for: `left` is the name without its first two
abbrev read_long : List ℕ → List ℕ → ℕ
read_long name left =
    if is_text name (codes "Backspace") then 8 else (if is_text name (codes "Tab") then 9
    else (if is_text name (codes "Newline") then 10 else (if is_text name (codes "Page") then 12
    else (if is_text name (codes "Return") then 13 else (if is_text name (codes "Space") then 32
    else (if is_text name (codes "Rubout") then 127 else value_after 0 left))))))

-- the character that a name stands for
abbrev read_name : List ℕ → ℕ
read_name [] = 0
read_name (c ∷ []) = c
read_name (c ∷ d ∷ cs) = read_long (c ∷ d ∷ cs) cs

-- what holds of each name of a character
every_name : (P : List ℕ → Type 0) (c : ℕ) → (c ≡ 8 → P (codes "Backspace")) → (c ≡ 9 → P (codes "Tab")) → (c ≡ 10 → P (codes "Newline")) → (c ≡ 12 → P (codes "Page")) → (c ≡ 13 → P (codes "Return")) → (c ≡ 32 → P (codes "Space")) → (c ≡ 127 → P (codes "Rubout"))
    → P (c ∷ []) → P (codes "U+" ++ hexadecimal (code_digits c) c) → P (character_name c)
every_name P c backspace tab newline page back space rubout glyph code =
    cond_both (c == 8) _ _ P (λ e. backspace (eqb-true c 8 e)) (λ _.
    cond_both (c == 9) _ _ P (λ e. tab (eqb-true c 9 e)) (λ _.
    cond_both (c == 10) _ _ P (λ e. newline (eqb-true c 10 e)) (λ _.
    cond_both (c == 12) _ _ P (λ e. page (eqb-true c 12 e)) (λ _.
    cond_both (c == 13) _ _ P (λ e. back (eqb-true c 13 e)) (λ _.
    cond_both (c == 32) _ _ P (λ e. space (eqb-true c 32 e)) (λ _.
    cond_both (c == 127) _ _ P (λ e. rubout (eqb-true c 127 e)) (λ _.
    cond_both (nat_lt 32 c && nat_lt c 127) _ _ P (λ _. glyph) (λ _. code))))))))

-- a character's code is below 1114112
scalar_limit : (c : ℕ) → IsScalar c → c < 1114112
scalar_limit c h = elim (scalar_cases c h) as (λ _. c < 1114112) [ inl low ↦ omega arith | inr high ↦ high.1 ]

-- a character is read back from its name
read_name-character_name : (c : ℕ) → IsScalar c → read_name (character_name c) ≡ c
read_name-character_name c h =
    every_name (λ t. read_name t ≡ c) c (λ e. sym e) (λ e. sym e) (λ e. sym e) (λ e. sym e) (λ e. sym e) (λ e. sym e) (λ e. sym e) refl
    (value_after-hexadecimal (code_digits c) c (enough_digits c (scalar_limit c h)))

-- a character that doesn't end an object's text
abbrev is_inner : ℕ → Bool
is_inner c = not (is_end_char c)

-- no character but the first ends an object's text
abbrev is_whole_name : List ℕ → Bool
is_whole_name [] = false
is_whole_name (c ∷ cs) = list_all is_inner cs

inner_digit : (d : ℕ) → d < 16 → is_inner (hexadecimal_digit d) ≡ true
inner_digit d h = grind (arith, nat_tests)

inner_digits : (count n : ℕ) → list_all is_inner (hexadecimal count n) ≡ true
inner_digits zero n = refl
inner_digits (suc count) n =
    list_all-append is_inner (hexadecimal count (n / 16)) (hexadecimal_digit (n % 16) ∷ [])
    ∙ and_from (list_all is_inner (hexadecimal count (n / 16))) (is_inner (hexadecimal_digit (n % 16)) && true) (inner_digits count (n / 16)) (and_from (is_inner (hexadecimal_digit (n % 16))) true (inner_digit (n % 16) (omega arith)) refl)

-- no character of a name but the first ends an object's text
whole_names : (c : ℕ) → is_whole_name (character_name c) ≡ true
whole_names c =
    every_name (λ t. is_whole_name t ≡ true) c (λ _. refl) (λ _. refl) (λ _. refl) (λ _. refl) (λ _. refl) (λ _. refl) (λ _. refl) refl (inner_digits (code_digits c) c)

-- two such names, up to the end of an object
same_whole_name : (t u r s : List ℕ) → is_whole_name t ≡ true → is_whole_name u ≡ true → is_end r ≡ true → is_end s ≡ true → t ++ r ≡ u ++ s → (t ≡ u) × (r ≡ s)
same_whole_name [] u r s ht hu hr hs e = absurd (true≢false (sym ht))
same_whole_name (x ∷ t) [] r s ht hu hr hs e = absurd (true≢false (sym hu))
same_whole_name (x ∷ t) (y ∷ u) r s ht hu hr hs e =
    let both = same_run is_inner t u r s ht hu (stops-is_end is_inner r refl refl hr) (stops-is_end is_inner s refl refl hs) (same_tail x y (t ++ r) (u ++ s) e) in
    let first = same_head x y (t ++ r) (u ++ s) e in
    (cc (first, both.0), both.1)

-- two characters with one text, up to the end of an object
pub same_character : (c d : ℕ) (r s : List ℕ) → IsScalar c → IsScalar d → is_end r ≡ true → is_end s ≡ true → character_text c ++ r ≡ character_text d ++ s → (c ≡ d) × (r ≡ s)
same_character c d r s hc hd hr hs e =
    let names = same_tail 92 92 (character_name c ++ r) (character_name d ++ s) (same_tail 35 35 (92 ∷ (character_name c ++ r)) (92 ∷ (character_name d ++ s)) e) in
    let both = same_whole_name (character_name c) (character_name d) r s (whole_names c) (whole_names d) hr hs names in
    (sym (read_name-character_name c hc) ∙ ap read_name both.0 ∙ read_name-character_name d hd, both.1)
