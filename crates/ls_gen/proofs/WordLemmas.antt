-- Names and numbers without escapes, as the reader reads them.
use Rattle.std.proofs.Common.{ℕ, ◌≡◌, ◌≢◌, ◌<◌, ◌≤◌, Bool, true, false, not, ◌&&◌, ◌==◌, List, [], ◌∷◌, length, map, nat_lt, refl, sym, ap, ◌∙◌, arith}
use Rattle.std.specs.Char.{to_ascii_uppercase}
use Rattle.std.specs.List.{list_all, AllByRecursion}
use Rattle.std.proofs.lemmas.Bool.{and_parts, or_parts, false≢true, lt-ltb}
use Rattle.std.proofs.lemmas.List.{take_all, drop_all}
use Rattle.ls_object.specs.Symbols.{common_lisp_symbol}
use Rattle.ls_reader.specs.Characters.{is_constituent, is_sign, goes_on}
use Rattle.ls_reader.specs.Lexemes.{Ends, IsLexeme, free, token_of}
use Rattle.ls_reader.specs.Names.{is_no_colon, symbol}
use Rattle.ls_reader.specs.Numbers.{is_digit_in, digits_len, unsigned, is_negative, value, fraction}
use Rattle.ls_reader.specs.Tokens.{Part, constituent, IsPart, parts_text, chars_of, are_plain, plain_text, plain_token, interpretation}
use Rattle.ls_reader.specs.steps.Lexing.{may_be_number}
use Rattle.ls_reader.proofs.NameLemmas.{plain_symbol_is}
use Rattle.ls_reader.proofs.TokenLemmas.{plain_token_symbol}
use Rattle.ls_gen.proofs.PassLemmas.{passes_too, prefix_len-all}

-- a constituent other than `#`
abbrev pub is_word_char : ℕ → Bool
is_word_char c = is_constituent c && not (c == 35)

-- a character of a name: no colon either
abbrev pub is_name_char : ℕ → Bool
is_name_char c = is_no_colon c && is_word_char c

-- a digit
abbrev pub is_number_char : ℕ → Bool
is_number_char c = is_digit_in 10 c && not (is_sign c) && is_word_char c

-- a text that is a name: it begins as no number does
abbrev pub is_name_text : List ℕ → Bool
is_name_text text = not (may_be_number text) && list_all is_name_char text

-- ---- the lexeme of a word

-- a word as the parts of a token
abbrev parts : List ℕ → List Part
parts text = map (λ c. constituent c) text

-- the parts are written as the word
parts_are : (text : List ℕ) → parts_text (parts text) ≡ text
parts_are [] = refl
parts_are (c ∷ cs) = ap (λ (x : List ℕ). c ∷ x) (parts_are cs)

-- the parts are in form
parts_fit : (text : List ℕ) → list_all is_word_char text ≡ true → AllByRecursion IsPart (parts text)
parts_fit [] e = tt
parts_fit (c ∷ cs) e =
    let both = and_parts (is_word_char c) (list_all is_word_char cs) e in
    ((and_parts (is_constituent c) (not (c == 35)) both.0).0, parts_fit cs both.1)

-- the parts have no escapes
parts_plain : (text : List ℕ) → are_plain (chars_of (parts text)) ≡ true
parts_plain [] = refl
parts_plain (c ∷ cs) = parts_plain cs

-- the parts stand for the word
parts_stand : (text : List ℕ) → plain_text (chars_of (parts text)) ≡ text
parts_stand [] = refl
parts_stand (c ∷ cs) = ap (λ (x : List ℕ). c ∷ x) (parts_stand cs)

-- the token of a word
word_token : (text : List ℕ) → token_of (free (parts text)) ≡ plain_token text
unfolding interpretation
word_token text = rw (parts_plain text, parts_stand text) refl

-- a word character is not `#`
no_sharp : (c : ℕ) → is_word_char c ≡ true → c ≢ 35
no_sharp c e f = false≢true (sym (rw f refl) ∙ (and_parts (is_constituent c) (not (c == 35)) e).1)

-- a word is the lexeme of its token, where no word goes on behind it
pub word_lexeme : (text more : List ℕ) → 0 < length text → list_all is_word_char text ≡ true → Ends goes_on more
    → IsLexeme (plain_token text) text more
word_lexeme [] more some e ends = absurd (omega arith)
word_lexeme (c ∷ cs) more some e ends =
    let first = and_parts (is_word_char c) (list_all is_word_char cs) e in (
      free (parts (c ∷ cs)),
      ((λ q. cc), (no_sharp c first.0, parts_fit (c ∷ cs) e, ends)),
      sym (word_token (c ∷ cs)),
      sym (parts_are (c ∷ cs)),
    )

-- ---- names

-- what is not denied to be false is false
not_true : (b : Bool) → not b ≡ true → b ≡ false
not_true true f = absurd (false≢true f)
not_true false f = refl

-- a name is a symbol of COMMON-LISP in upper case
pub name_token : (text : List ℕ) → is_name_text text ≡ true
    → plain_token text ≡ symbol (common_lisp_symbol (map to_ascii_uppercase text))
name_token text e =
    let both = and_parts (not (may_be_number text)) (list_all is_name_char text) e in
    let one : (c : ℕ) → is_name_char c ≡ true → is_no_colon c ≡ true = λ c h. (and_parts _ (is_word_char c) h).0 in
    let no_colon = passes_too is_name_char is_no_colon one text both.1 in
    plain_token_symbol text (not_true (may_be_number text) both.0)
    ∙ plain_symbol_is text (prefix_len-all is_no_colon text no_colon)

-- ---- numbers

-- digits without a sign are an integer
number_by : (text : List ℕ) → unsigned text ≡ text → is_negative text ≡ false → digits_len 10 text ≡ length text
    → 0 < length text → plain_token text ≡ fraction false (value 10 text) 1
number_by text bare natural digits some =
    let have : nat_lt 0 (length text) ≡ true = lt-ltb 0 (length text) some in
    let n : length text ≤ length text = omega arith in
    rw (bare, natural, digits, take_all (length text) text n, drop_all (length text) text n, have) refl

-- digits are an integer
pub number_token : (text : List ℕ) → 0 < length text → list_all is_number_char text ≡ true
    → plain_token text ≡ fraction false (value 10 text) 1
number_token [] some e = absurd (omega arith)
number_token (c ∷ cs) some e =
    let digits = passes_too is_number_char (is_digit_in 10) (λ d h. (number_parts d h).0) (c ∷ cs) e in
    let no_sign = (number_parts c (and_parts (is_number_char c) (list_all is_number_char cs) e).0).1 in
    number_by (c ∷ cs) (rw no_sign refl) (or_parts (c == 43) (c == 45) no_sign).1
    (prefix_len-all (is_digit_in 10) (c ∷ cs) digits) some
  where
    number_parts : (d : ℕ) → is_number_char d ≡ true → (is_digit_in 10 d ≡ true) × (is_sign d ≡ false)
    number_parts d h =
        let both = and_parts (is_digit_in 10 d && not (is_sign d)) (is_word_char d) h in
        let first = and_parts (is_digit_in 10 d) (not (is_sign d)) both.0 in
        (first.0, not_true (is_sign d) first.1)
