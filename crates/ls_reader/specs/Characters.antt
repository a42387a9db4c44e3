-- The classes of characters (2.1.4).
use Rattle.std.specs.Prelude.{ℕ, ◌+◌, Bool, true, false, ◌||◌, ◌&&◌, not, if◌then◌else◌, ◌==◌, nat_le, nat_lt, List, [], ◌∷◌}
use Rattle.ls_reader.specs.declared.character.Syntax.{Syntax}
use Rattle.ls_reader.specs.declared.character.Syntax.TheVariants.{Whitespace, Constituent, Terminating, Sharp, SingleEscape, MultipleEscape, Invalid}

-- whitespace (2.1.4.7): tab, newline, page, return, space and rubout
abbrev pub is_blank : ℕ → Bool
is_blank c = c == 9 || c == 10 || c == 12 || c == 13 || c == 32 || c == 127

-- a terminating macro character (2.1.4.4): " ' ( ) , ; and the backquote
abbrev pub is_terminating : ℕ → Bool
is_terminating c = c == 34 || c == 39 || c == 40 || c == 41 || c == 44 || c == 59 || c == 96

-- the syntax type of a character: codes below 32 that are no whitespace are invalid, `#`, `\` and `|` have types of
-- their own, and all that is left are constituents
unfoldable pub syntax_of : ℕ → Syntax
syntax_of c =
    if is_blank c then Whitespace else
    (if nat_lt c 32 then Invalid else
    (if is_terminating c then Terminating else
    (if c == 35 then Sharp else
    (if c == 92 then SingleEscape else
    (if c == 124 then MultipleEscape else Constituent)))))

-- the types of what stands for itself in a token; `#` does so where it is not the first
abbrev pub is_plain : Syntax → Bool
is_plain Constituent = true
is_plain Sharp = true
is_plain _ = false

-- a character that stands for itself in a token
abbrev pub is_constituent : ℕ → Bool
is_constituent c = is_plain (syntax_of c)

-- a character that a token goes on with: a constituent or an escape
abbrev pub goes_on : ℕ → Bool
goes_on c = is_constituent c || (c == 92 || c == 124)

-- whether a token stands at the front of a text; `#` begins none
abbrev pub begins_token : List ℕ → Bool
begins_token [] = false
begins_token (c ∷ cs) = goes_on c && not (c == 35)

-- a character other than a newline
abbrev pub is_not_newline : ℕ → Bool
is_not_newline c = not (c == 10)

-- a decimal digit
abbrev pub is_digit : ℕ → Bool
is_digit c = nat_le 48 c && nat_le c 57

-- plus or minus
abbrev pub is_sign : ℕ → Bool
is_sign c = c == 43 || c == 45
