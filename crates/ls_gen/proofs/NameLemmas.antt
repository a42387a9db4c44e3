-- Names and numbers that are read before other data.
use Rattle.std.proofs.Common.{ℕ, pos, ◌≡◌, ◌<◌, ◌≤◌, true, false, not, List, [], ◌∷◌, ◌++◌, length, map, codes, decimal, refl, ap, ◌∙◌, arith}
use Rattle.std.specs.Char.{to_ascii_uppercase}
use Rattle.std.specs.List.{list_all}
use Rattle.std.proofs.lemmas.Bool.{and_parts, false≢true}
use Rattle.std.proofs.Math.Nat.{zero-lt-suc}
use Rattle.ls_object.specs.Symbols.{common_lisp_symbol}
use Rattle.ls_reader.specs.declared.datum.Datum.{Datum}
use Rattle.ls_reader.specs.declared.datum.Form.{Form, roll-Form, out-roll-Form}
use Rattle.ls_reader.specs.declared.datum.Form.TheOpen.{Form-F}
use Rattle.ls_reader.specs.Characters.{is_blank, goes_on, syntax_of}
use Rattle.ls_reader.specs.Fractions.{literal_of}
use Rattle.ls_reader.specs.Lexemes.{Ends, piece}
use Rattle.ls_reader.specs.Numbers.{value}
use Rattle.ls_reader.specs.Tokens.{plain_token}
use Rattle.ls_reader.specs.steps.Lexing.{may_be_number}
use Rattle.ls_gen.specs.Shapes.{IsName, IsNumber, type_name}
use Rattle.ls_gen.proofs.DigitLemmas.{decimal_passes, decimal_some, decimal_upper, decimal_value}
use Rattle.ls_gen.proofs.LiteralLemmas.{whole_literal}
use Rattle.ls_gen.proofs.PassLemmas.{passes_too, ends_before}
use Rattle.ls_gen.proofs.ReadLemmas.{AreRead, one_lexeme}
use Rattle.ls_gen.proofs.WordLemmas.{is_word_char, is_name_char, is_number_char, is_name_text, word_lexeme, name_token, number_token}

-- ---- names

-- a name has a character
name_some : (text : List ℕ) → is_name_text text ≡ true → 0 < length text
name_some [] e = absurd (false≢true e)
name_some (c ∷ cs) e = omega arith

-- a name, which ends before what follows
pub name : (n : ℕ) (text upper more rest : List ℕ) (shapes : List (Datum → Type 0)) → is_name_text text ≡ true
    → map to_ascii_uppercase text ≡ upper → Ends goes_on more → AreRead n more rest shapes
    → AreRead n (text ++ more) rest (IsName upper ∷ shapes)
name n text upper more rest shapes is up ends read =
    let form : Form = roll-Form (Form-F.Symbol (common_lisp_symbol (map to_ascii_uppercase text))) in
    let chars = (and_parts (not (may_be_number text)) (list_all is_name_char text) is).1 in
    let words = passes_too is_name_char is_word_char (λ c h. (and_parts _ (is_word_char c) h).1) text chars in
    one_lexeme n (plain_token text) form text more rest (IsName upper) shapes
    (word_lexeme text more (name_some text is) words ends)
    (λ e. ap (λ t. piece t e) (name_token text is))
    (λ from end. out-roll-Form _ ∙ ap (λ (x : List ℕ). Form-F.Symbol (common_lisp_symbol x)) up)
    read

-- the name of the type of a number
pub type_word : (n i : ℕ) (more rest : List ℕ) (shapes : List (Datum → Type 0)) → i ≤ 4096 → Ends goes_on more
    → AreRead n more rest shapes → AreRead n (codes "g" ++ (decimal i ++ more)) rest (IsName (type_name i) ∷ shapes)
unfolding syntax_of
type_word n i more rest shapes few ends read =
    name n (103 ∷ decimal i) (type_name i) more rest shapes
    (decimal_passes is_name_char refl i (omega (arith, few)))
    (ap (λ (x : List ℕ). 71 ∷ x) (decimal_upper i few)) ends read

-- ---- numbers

-- digits, which end before what follows
pub digits : (n : ℕ) (text : List ℕ) (i : ℕ) (more rest : List ℕ) (shapes : List (Datum → Type 0)) → 0 < length text
    → list_all is_number_char text ≡ true → value 10 text ≡ i → i ≤ 4096 → Ends goes_on more
    → AreRead n more rest shapes
    → AreRead n (text ++ more) rest (IsNumber i ∷ shapes)
digits n text i more rest shapes some chars is few ends read =
    let form : Form = roll-Form (Form-F.Number (literal_of false (value 10 text) 1 (zero-lt-suc 0))) in
    let whole = whole_literal (value 10 text) (zero-lt-suc 0) (omega (arith, is, few)) in
    let words = passes_too is_number_char is_word_char (λ c h. (and_parts _ (is_word_char c) h).1) text chars in
    one_lexeme n (plain_token text) form text more rest (IsNumber i) shapes
    (word_lexeme text more some words ends)
    (λ e. ap (λ t. piece t e) (number_token text some chars))
    (λ from end. (whole.0, out-roll-Form _ ∙ ap (λ l. Form-F.Number l) whole.1, whole.2 ∙ ap pos is, whole.3))
    read

-- a number
pub number : (n i : ℕ) (more rest : List ℕ) (shapes : List (Datum → Type 0)) → i ≤ 4096 → Ends goes_on more
    → AreRead n more rest shapes → AreRead n (decimal i ++ more) rest (IsNumber i ∷ shapes)
unfolding syntax_of
number n i more rest shapes few ends read =
    digits n (decimal i) i more rest shapes (decimal_some i few)
    (decimal_passes is_number_char refl i (omega (arith, few)))
    (decimal_value i (omega (arith, few))) few ends read

-- no blank comes first in a number
pub number_no_blank : (i : ℕ) (more : List ℕ) → i ≤ 4096 → Ends is_blank (decimal i ++ more)
number_no_blank i more few =
    ends_before is_blank (decimal i) more (decimal_some i few)
    (decimal_passes (λ c. not (is_blank c)) refl i (omega (arith, few)))
