-- The symbol of a token without escapes and package markers, which the code reads by a shorter way.
use Rattle.std.specs.List.{prefix_len}
use Rattle.std.proofs.Common.{◌≡◌, ℕ, List, [], ◌∷◌, length, map, refl, ap, arith}
use Rattle.std.specs.Char.{to_ascii_uppercase}
use Rattle.std.proofs.lemmas.List.{take_all, drop_all, length-map}
use Rattle.ls_reader.specs.declared.token_char.TokenChar.{TokenChar}
use Rattle.ls_reader.specs.declared.token_char.TokenChar.TheVariants.{Plain}
use Rattle.ls_reader.specs.Names.{name_of, is_no_colon, marker_at, common_lisp, symbol_token}

-- markers are colons
marker_at-plain : (text : List ℕ) → marker_at (map Plain text) ≡ prefix_len is_no_colon text
marker_at-plain [] = refl
marker_at-plain (c ∷ cs) = rw (marker_at-plain cs) refl

-- the name is in upper case
name_of-plain : (text : List ℕ) → name_of (map Plain text) ≡ map to_ascii_uppercase text
name_of-plain [] = refl
name_of-plain (c ∷ cs) = ap (λ (x : List ℕ). to_ascii_uppercase c ∷ x) (name_of-plain cs)

-- a text without colons is a symbol of COMMON-LISP
pub plain_symbol_is : (text : List ℕ) → prefix_len is_no_colon text ≡ length text → symbol_token (map Plain text) ≡ common_lisp (map to_ascii_uppercase text)
plain_symbol_is text e =
    let chars : List TokenChar = map Plain text in
    let n : marker_at chars ≡ length chars = omega (arith, marker_at-plain text, e, length-map text (λ (c : ℕ). Plain c)) in
    rw (n, take_all (length chars) chars (omega arith), drop_all (length chars) chars (omega arith), name_of-plain text) refl
