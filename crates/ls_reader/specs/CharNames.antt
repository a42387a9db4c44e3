-- Characters behind `#\` (2.4.8.1, 13.1.7).
use Rattle.std.specs.Prelude.{ℕ, Bool, ◌||◌, ◌&&◌, if◌then◌else◌, ◌==◌, nat_eq, nat_lt, nat_le, List, [], ◌∷◌, length, map, codes, Option, Some, None}
use Rattle.std.specs.Char.{to_ascii_uppercase}
use Rattle.std.specs.Cmp.Lexicographic.{pointwise}
use Rattle.ls_reader.specs.declared.datum.Form.{Form, roll-Form}
use Rattle.ls_reader.specs.declared.datum.Form.TheOpen.{Form-F}
use Rattle.ls_reader.specs.Numbers.{are_digits, value, or_else}

-- the code of a Unicode scalar value
abbrev pub is_scalar : ℕ → Bool
is_scalar code = nat_lt code 55296 || (nat_le 57344 code && nat_lt code 1114112)

-- the character of a code, if it has one
abbrev pub scalar : ℕ → Option ℕ
scalar code = if is_scalar code then Some code else None

-- the digits of a character's code, which stand behind U+
abbrev pub code_digits : List ℕ → List ℕ
code_digits [] = []
code_digits (c ∷ []) = []
code_digits (c ∷ d ∷ ds) = if (c == 85 || c == 117) && d == 43 then ds else []

-- the character of one to six hexadecimal digits, if they are the code of one
abbrev pub character_of_code : List ℕ → Option ℕ
character_of_code ds = if are_digits 16 ds && nat_le (length ds) 6 then scalar (value 16 ds) else None

-- the name of a character is this one
abbrev pub is : List ℕ → List ℕ → Bool
is name text = pointwise nat_eq name text

-- the character of a name in upper case, if it has one
abbrev pub character_of_name : List ℕ → Option ℕ
character_of_name name =
    if is name (codes "SPACE") then Some 32 else
    (if is name (codes "NEWLINE") || is name (codes "LINEFEED") then Some 10 else
    (if is name (codes "TAB") then Some 9 else
    (if is name (codes "PAGE") then Some 12 else
    (if is name (codes "RUBOUT") then Some 127 else
    (if is name (codes "RETURN") then Some 13 else
    (if is name (codes "BACKSPACE") then Some 8 else None))))))

-- a character, or what is not kept where there is none
abbrev pub character_form : Option ℕ → Form
character_form (Some c) = roll-Form (Form-F.Char c)
character_form None = roll-Form Form-F.Odd

-- the character of a name in either case, or of a code
abbrev pub named : List ℕ → Form
named text =
    character_form (or_else (character_of_name (map to_ascii_uppercase text)) (character_of_code (code_digits text)))

-- the character that a text behind `#\` writes: itself, where it is only one, or else what it names
abbrev pub character : List ℕ → Form
character [] = roll-Form Form-F.Odd
character (c ∷ []) = roll-Form (Form-F.Char c)
character (c ∷ d ∷ cs) = named (c ∷ d ∷ cs)
