-- Tokens: how they are written (2.2), and what they are (2.3).
use Rattle.std.specs.Prelude.{ℕ, Bool, true, false, ◌&&◌, if◌then◌else◌, ◌==◌, ◌≡◌, List, [], ◌∷◌, ◌++◌, length, map, Option, Some, None}
use Rattle.std.specs.List.{flat_map, AllByRecursion, prefix_len}
use Rattle.ls_reader.specs.declared.datum.Form.{Form, roll-Form}
use Rattle.ls_reader.specs.declared.datum.Form.TheOpen.{Form-F}
use Rattle.ls_reader.specs.declared.datum.FloatFormat.{FloatFormat}
use Rattle.ls_reader.specs.declared.fault.FaultKind.TheVariants.{BadToken}
use Rattle.ls_reader.specs.declared.token_char.TokenChar.{TokenChar}
use Rattle.ls_reader.specs.declared.token_char.TokenChar.TheVariants.{Plain, Exact, Escape}
use Rattle.ls_reader.specs.declared.interpret.Role.{Role}
use Rattle.ls_reader.specs.declared.interpret.Role.TheVariants.{Free, Radix, Bits, Uninterned}
use Rattle.ls_reader.specs.declared.token.Token.{Token}
use Rattle.ls_reader.specs.declared.token.Token.TheVariants as token
use Rattle.ls_reader.specs.Characters.{is_constituent}
use Rattle.ls_reader.specs.Strings.{Inner, inners_text, inner_char, IsInner}
use Rattle.ls_reader.specs.Numbers.{is_digit_in, is_rational_in, is_rational, number_of, float_of}
use Rattle.ls_reader.specs.Names.{symbol_token}

-- ---- how a token is written

-- a part of a token: a constituent, a backslash and a character (2.1.4.6), or characters between bars (2.1.4.5)
pub data Part : Type 0 where
  constituent : ℕ → Part
  single : ℕ → Part
  barred : List Inner → Part

-- how a part is written
abbrev pub part_text : Part → List ℕ
part_text (constituent c) = c ∷ []
part_text (single c) = 92 ∷ c ∷ []
part_text (barred is) = 124 ∷ (inners_text is ++ 124 ∷ [])

-- a part is in form
abbrev pub IsPart : Part → Type 0
IsPart (constituent c) = is_constituent c ≡ true
IsPart (single c) = Unit {0}
IsPart (barred is) = AllByRecursion (IsInner 124) is

-- how parts are written
abbrev pub parts_text : List Part → List ℕ
parts_text ps = flat_map part_text ps

-- an escaped character
abbrev pub exact : Inner → TokenChar
exact i = Exact (inner_char i)

-- what a part stands for: plain and escaped characters, and that an escape stands there
abbrev pub part_chars : Part → List TokenChar
part_chars (constituent c) = Plain c ∷ []
part_chars (single c) = Exact c ∷ []
part_chars (barred is) = Escape ∷ map exact is

-- what parts stand for
abbrev pub chars_of : List Part → List TokenChar
chars_of ps = flat_map part_chars ps

-- ---- what a token is

-- a plain character
abbrev pub is_plain_char : TokenChar → Bool
is_plain_char (Plain c) = true
is_plain_char (Exact c) = false
is_plain_char Escape = false

-- a token without escapes
abbrev pub are_plain : List TokenChar → Bool
are_plain [] = true
are_plain (s ∷ ss) = is_plain_char s && are_plain ss

-- the plain character of a character
abbrev pub char_text : TokenChar → List ℕ
char_text (Plain c) = c ∷ []
char_text (Exact c) = []
char_text Escape = []

-- the characters of a token without escapes
abbrev pub plain_text : List TokenChar → List ℕ
plain_text ss = flat_map char_text ss

-- a point
abbrev pub is_point_char : ℕ → Bool
is_point_char c = c == 46

-- points alone
abbrev pub are_points : List ℕ → Bool
are_points text = prefix_len is_point_char text == length text

-- a dot (2.3.3), or points, which are a fault
abbrev pub points : ℕ → Token
points count = if count == 1 then token.Dot else token.Bad BadToken

-- a float, or else a symbol
abbrev pub float_or_symbol : List ℕ → Option FloatFormat → Token
float_or_symbol text (Some format) = token.Atom (roll-Form (Form-F.Float format))
float_or_symbol text None = symbol_token (map Plain text)

-- What a token without escapes is: an integer or a ratio (2.3.2.1), a dot (2.3.3), dots, which are a fault, a float
-- (2.3.2.2), or a symbol (2.3.4).
abbrev pub plain_token : List ℕ → Token
plain_token text =
    if is_rational text then number_of 10 text else
    (if are_points text then points (length text) else
    float_or_symbol text (float_of text))

-- whether all characters are the digits 0 and 1
abbrev pub are_bits : List ℕ → Bool
are_bits text = prefix_len (is_digit_in 2) text == length text

-- bits, which are not kept where their count is written too (2.4.8.4)
abbrev pub bits : Bool → ℕ → Form
bits true count = roll-Form Form-F.Odd
bits false count = roll-Form (Form-F.Bits count)

-- a token behind `#:` (2.4.8.5): its fault, if it is one, or else a symbol that is not kept
abbrev pub uninterned : Token → Token
uninterned (token.Bad kind) = token.Bad kind
uninterned _ = token.Atom (roll-Form Form-F.Odd)

-- what a token without escapes is, by what it is read as
abbrev pub plain_interpretation : Role → List ℕ → Token
plain_interpretation Free text = plain_token text
plain_interpretation (Radix base) text = if is_rational_in base text then number_of base text else token.Bad BadToken
plain_interpretation (Bits counted) text =
    if are_bits text then token.Atom (bits counted (length text)) else token.Bad BadToken
plain_interpretation Uninterned [] = token.Bad BadToken
plain_interpretation Uninterned (c ∷ cs) = uninterned (plain_token (c ∷ cs))

-- what a token with escapes is, by what it is read as
abbrev pub escaped_interpretation : Role → List TokenChar → Token
escaped_interpretation Free chars = symbol_token chars
escaped_interpretation (Radix base) chars = token.Bad BadToken
escaped_interpretation (Bits counted) chars = token.Bad BadToken
escaped_interpretation Uninterned chars = uninterned (symbol_token chars)

-- what a token is, by what it is read as
unfoldable pub interpretation : Role → List TokenChar → Token
interpretation role chars =
    if are_plain chars then plain_interpretation role (plain_text chars) else escaped_interpretation role chars
