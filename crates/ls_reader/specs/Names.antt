-- Symbols as tokens (2.3.4, 2.3.5).
use Rattle.std.specs.Prelude.{ℕ, Bool, true, ◌||◌, ◌&&◌, not, if◌then◌else◌, ◌==◌, nat_eq, nat_lt, List, [], ◌∷◌, length, take, drop, codes}
use Rattle.std.specs.List.{flat_map, prefix_len}
use Rattle.std.specs.Char.{to_ascii_uppercase}
use Rattle.std.specs.Cmp.Lexicographic.{pointwise}
use Rattle.ls_object.specs.Symbols.{common_lisp_symbol}
use Rattle.ls_object.specs.declared.symbol.Symbol.{Symbol}
use Rattle.ls_reader.specs.declared.datum.Form.{roll-Form}
use Rattle.ls_reader.specs.declared.datum.Form.TheOpen.{Form-F}
use Rattle.ls_reader.specs.declared.fault.FaultKind.TheVariants.{BadToken}
use Rattle.ls_reader.specs.declared.token_char.TokenChar.{TokenChar}
use Rattle.ls_reader.specs.declared.token_char.TokenChar.TheVariants.{Plain, Exact, Escape}
use Rattle.ls_reader.specs.declared.token.Token.{Token}
use Rattle.ls_reader.specs.declared.token.Token.TheVariants as token

-- what a character adds to a name: letters a to z go to upper case outside escapes
abbrev pub char_name : TokenChar → List ℕ
char_name (Plain c) = to_ascii_uppercase c ∷ []
char_name (Exact c) = c ∷ []
char_name Escape = []

-- the name that characters make
abbrev pub name_of : List TokenChar → List ℕ
name_of chars = flat_map char_name chars

-- a character other than a colon
abbrev pub is_no_colon : ℕ → Bool
is_no_colon c = not (c == 58)

-- a character other than a package marker, which is a `:` outside escapes
abbrev pub is_no_marker : TokenChar → Bool
is_no_marker (Plain c) = is_no_colon c
is_no_marker (Exact c) = true
is_no_marker Escape = true

-- how many characters stand before the first package marker
abbrev pub marker_at : List TokenChar → ℕ
marker_at chars = prefix_len is_no_marker chars

-- at least one character, and no package marker
abbrev pub is_name : List TokenChar → Bool
is_name chars = nat_lt 0 (length chars) && marker_at chars == length chars

-- the package that a name of one stands for: four names stand for COMMON-LISP
abbrev pub package_of : List ℕ → List ℕ
package_of name =
    if pointwise nat_eq name (codes "CL")
    || (pointwise nat_eq name (codes "CL-USER") || pointwise nat_eq name (codes "COMMON-LISP-USER"))
    then codes "COMMON-LISP" else name

-- the token of a symbol
abbrev pub symbol : Symbol → Token
symbol s = token.Atom (roll-Form (Form-F.Symbol s))

-- the symbol of a package with the name that characters make, where they can be one
abbrev pub symbol_in : List ℕ → List TokenChar → Token
symbol_in «package» chars =
    if is_name chars then symbol (record { «package» = «package»; name = name_of chars }) else token.Bad BadToken

-- characters without the package marker that comes first, if one does
abbrev pub without_marker : List TokenChar → List TokenChar
without_marker [] = []
without_marker (s ∷ ss) = if is_no_marker s then s ∷ ss else ss

-- a symbol in a package of this name, which is not empty, behind one marker or two
abbrev pub qualified : List ℕ → List TokenChar → Token
qualified [] chars = token.Bad BadToken
qualified (c ∷ cs) chars = symbol_in (package_of (c ∷ cs)) (without_marker chars)

-- a symbol with a package marker: a keyword, where it comes first, or else a symbol of the package named before it
abbrev pub marked : List TokenChar → List TokenChar → Token
marked [] after = symbol_in (codes "KEYWORD") after
marked (s ∷ ss) after = qualified (name_of (s ∷ ss)) after

-- a symbol of the package COMMON-LISP
abbrev pub common_lisp : List ℕ → Token
common_lisp name = symbol (common_lisp_symbol name)

-- a symbol from the characters before the first package marker, and that and what follows
abbrev pub symbol_from : List TokenChar → List TokenChar → Token
symbol_from before [] = common_lisp (name_of before)
symbol_from before (marker ∷ after) = marked before after

-- the symbol that a token is
abbrev pub symbol_token : List TokenChar → Token
symbol_token chars = symbol_from (take (marker_at chars) chars) (drop (marker_at chars) chars)
