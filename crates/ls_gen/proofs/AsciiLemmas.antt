-- The generated text is ASCII.
use Rattle.std.proofs.Common.{ℕ, zero, suc, ◌≡◌, ◌+◌, ◌≤◌, Bool, true, List, [], ◌∷◌, ◌++◌, decimal, nat_lt, refl, ap, ◌∙◌, arith}
use Rattle.std.specs.List.{flat_map, list_all, range_with_len}
use Rattle.std.specs.Str.{IsAscii}
use Rattle.std.proofs.lemmas.Bool.{and_from, and_parts, ltb-true}
use Rattle.std.proofs.lemmas.List.Folds.{list_all-append}
use Rattle.ls_gen.specs.Generated.{partner, definition_line, list_line, partner_line, lines_of, generated_text}
use Rattle.ls_gen.proofs.DigitLemmas.{decimal_passes}
use Rattle.ls_gen.proofs.LineTexts.{definition_parts, list_parts, partner_parts, lines_parts}
use Rattle.ls_gen.proofs.TextLemmas.{partner_below}

-- whether each character is ASCII
abbrev are_ascii : List ℕ → Bool
are_ascii text = list_all (λ c. nat_lt c 128) text

-- a number before ASCII
number_ascii : (i : ℕ) (rest : List ℕ) → i ≤ 4096 → are_ascii rest ≡ true → are_ascii (decimal i ++ rest) ≡ true
number_ascii i rest few h =
    list_all-append (λ c. nat_lt c 128) (decimal i) rest
    ∙ and_from _ _ (decimal_passes (λ c. nat_lt c 128) refl i (omega (arith, few))) h

-- a definition before ASCII
definition_ascii : (i : ℕ) (rest : List ℕ) → i ≤ 4096 → are_ascii rest ≡ true
    → are_ascii (definition_line i ++ rest) ≡ true
definition_ascii i rest few h =
    ap are_ascii (definition_parts i rest) ∙ number_ascii i _ few (number_ascii i _ few (number_ascii i _ few h))

-- a query about lists before ASCII
list_ascii : (i : ℕ) (rest : List ℕ) → i ≤ 4096 → are_ascii rest ≡ true → are_ascii (list_line i ++ rest) ≡ true
list_ascii i rest few h = ap are_ascii (list_parts i rest) ∙ number_ascii i _ few h

-- a query about a number's partner before ASCII
partner_ascii : (n i : ℕ) (rest : List ℕ) → i ≤ 4096 → partner n i ≤ 4096 → are_ascii rest ≡ true
    → are_ascii (partner_line n i ++ rest) ≡ true
partner_ascii n i rest few few_too h =
    ap are_ascii (partner_parts n i rest) ∙ number_ascii i _ few (number_ascii (partner n i) _ few_too h)

-- the text of so many numbers is ASCII
text_ascii : (n left i : ℕ) → n ≤ 4096 → i + left ≤ n → are_ascii (flat_map (lines_of n) (range_with_len i left)) ≡ true
text_ascii n zero i few within = refl
text_ascii n (suc left) i few within =
    let more = flat_map (lines_of n) (range_with_len (i + 1) left) in
    let here : i ≤ 4096 = omega (arith, few, within) in
    let there : partner n i ≤ 4096 = omega (arith, few, partner_below n i (omega (arith, within))) in
    ap are_ascii (lines_parts n i more)
    ∙ definition_ascii i _ here (list_ascii i _ here
    (partner_ascii n i more here there (text_ascii n left (i + 1) few (omega (arith, within)))))

-- ASCII, character by character
ascii_from : (text : List ℕ) → are_ascii text ≡ true → IsAscii text
ascii_from [] h i = omega arith
ascii_from (c ∷ cs) h zero = ltb-true c 128 (and_parts (nat_lt c 128) (are_ascii cs) h).0
ascii_from (c ∷ cs) h (suc i) = ascii_from cs (and_parts (nat_lt c 128) (are_ascii cs) h).1 i

-- the generated text is ASCII
pub generated_ascii : (n : ℕ) → n ≤ 4096 → IsAscii (generated_text n)
unfolding generated_text
generated_ascii n few = ascii_from (flat_map (lines_of n) (range_with_len 0 n)) (text_ascii n n 0 few (omega arith))
