-- What stands between two like delimiters: strings (2.4.5), and parts of tokens between bars (2.1.4.5).
use Rattle.std.specs.Prelude.{ℕ, ◌≢◌, List, [], ◌∷◌, map}
use Rattle.std.specs.List.{flat_map}

-- a character as it is written between delimiters: itself, or with a backslash before it
pub data Inner : Type 0 where
  bare : ℕ → Inner
  escaped : ℕ → Inner

-- how the character is written
abbrev pub inner_text : Inner → List ℕ
inner_text (bare c) = c ∷ []
inner_text (escaped c) = 92 ∷ c ∷ []

-- which character it is
abbrev pub inner_char : Inner → ℕ
inner_char (bare c) = c
inner_char (escaped c) = c

-- the delimiter and the backslash have a backslash before them
abbrev pub IsInner : ℕ → Inner → Type 0
IsInner delimiter (bare c) = (c ≢ delimiter) × (c ≢ 92)
IsInner delimiter (escaped c) = Unit {0}

-- how characters are written
abbrev pub inners_text : List Inner → List ℕ
inners_text is = flat_map inner_text is

-- which characters they are
abbrev pub inner_chars : List Inner → List ℕ
inner_chars is = map inner_char is
