-- The built-in names are ASCII, so a name may be compared by its bytes.
use Rattle.std.proofs.Common.{ℕ, zero, suc, ◌≡◌, refl, Bool, true, List, [], ◌∷◌, nat_lt, arith}
use Rattle.std.specs.List.{list_all}
use Rattle.std.specs.Str.{chars, IsUtf8, IsAscii}
use Rattle.std.proofs.lemmas.Bool.{ltb-true}
use Rattle.std.proofs.lemmas.Str.{chars-IsAscii, IsUtf8-from_ascii}
use Rattle.ls_object.specs.ObjectText.{is_text}
use Rattle.ls_object.proofs.TextLemmas.{eq_of_chars}
use Rattle.ls_tables.specs.Builtins.{look_up, BUILTIN_NAMES}
use Rattle.ls_tables.proofs.SearchLemmas.{left, right}

-- each byte is ASCII
abbrev is_ascii : List ℕ → Bool
is_ascii bs = list_all (λ b. nat_lt b 128) bs

-- what the test says of each place
pub ascii : (bs : List ℕ) → is_ascii bs ≡ true → IsAscii bs
ascii [] h i = omega arith
ascii (b ∷ bs) h zero = ltb-true _ _ (left _ _ h)
ascii (b ∷ bs) h (suc i) = ascii bs (right _ _ h) i

module _ {V : Type 0} where
  -- whether each name is ASCII
  abbrev are_ascii : List (List ℕ × V) → Bool
  are_ascii rows = list_all (λ (row : List ℕ × V). is_ascii row.0) rows

  -- by its bytes or by its characters, the same row is found
  by_characters : (rows : List (List ℕ × V)) → are_ascii rows ≡ true → (bs : List ℕ) → IsUtf8 bs → look_up bs rows ≡ look_up (chars bs) rows
  by_characters [] h bs u = refl
  by_characters (row ∷ rows) h bs u =
      let a = ascii row.0 (left (is_ascii row.0) (are_ascii rows) h) in
      let first : is_text row.0 bs ≡ is_text row.0 (chars bs) = eq_of_chars row.0 bs row.0 (chars bs) (IsUtf8-from_ascii row.0 a) u (chars-IsAscii row.0 a) refl _ refl in
      let others : look_up bs rows ≡ look_up (chars bs) rows = by_characters rows (right (is_ascii row.0) (are_ascii rows) h) bs u in
      rw (first, others) refl

-- so a built-in name is found by its bytes or by its characters
pub builtin_by_characters : (bs : List ℕ) → IsUtf8 bs → look_up bs BUILTIN_NAMES ≡ look_up (chars bs) BUILTIN_NAMES
unfolding BUILTIN_NAMES
builtin_by_characters = by_characters BUILTIN_NAMES refl
