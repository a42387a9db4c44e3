-- How long the generated text is.
use Rattle.std.proofs.Common.{ℕ, zero, suc, ◌+◌, ◌*◌, ◌≤◌, ◌++◌, length, decimal, arith, length-append}
use Rattle.std.specs.List.{flat_map, range_with_len}
use Rattle.std.proofs.lemmas.Fmt.{length-decimal-le}
use Rattle.ls_gen.specs.Generated.{partner, definition_line, list_line, partner_line, lines_of, generated_text}
use Rattle.ls_gen.proofs.TextLemmas.{partner_below}

-- a number has at most four digits
decimal_short : (i : ℕ) → i ≤ 4096 → length (decimal i) ≤ 4
decimal_short i few = length-decimal-le 4 i (omega arith) (omega (arith, few)) (omega (arith, few))

-- a definition is short
definition_short : (i : ℕ) → i ≤ 4096 → length (definition_line i) ≤ 100
definition_short i few = simp length-append (omega (arith, decimal_short i few))

-- a query about lists is short
list_short : (i : ℕ) → i ≤ 4096 → length (list_line i) ≤ 50
list_short i few = simp length-append (omega (arith, decimal_short i few))

-- a query about a number's partner is short
partner_short : (n i : ℕ) → i ≤ 4096 → partner n i ≤ 4096 → length (partner_line n i) ≤ 50
partner_short n i few few_too =
    simp length-append (omega (arith, decimal_short i few, decimal_short (partner n i) few_too))

-- the lines of a number are short
lines_short : (n i : ℕ) → i ≤ 4096 → partner n i ≤ 4096 → length (lines_of n i) ≤ 200
lines_short n i few few_too =
    omega (
      arith,
      length-append (definition_line i ++ list_line i) (partner_line n i),
      length-append (definition_line i) (list_line i),
      definition_short i few,
      list_short i few,
      partner_short n i few few_too,
    )

-- the text of so many numbers is short
text_short : (n left i : ℕ) → n ≤ 4096 → i + left ≤ n
    → length (flat_map (lines_of n) (range_with_len i left)) ≤ 200 * left
text_short n zero i few within = omega arith
text_short n (suc left) i few within =
    let more = flat_map (lines_of n) (range_with_len (i + 1) left) in
    let there = partner_below n i (omega (arith, within)) in
    omega (
      arith,
      length-append (lines_of n i) more,
      lines_short n i (omega (arith, few, within)) (omega (arith, few, there)),
      text_short n left (i + 1) few (omega (arith, within)),
    )

-- the generated text is within the limit of a text
pub generated_short : (n : ℕ) → n ≤ 4096 → length (generated_text n) ≤ 16777216
unfolding generated_text
generated_short n few = omega (arith, text_short n n 0 few (omega arith), few)
