-- The lexemes of a text, and the pieces that stand for something, each with its place (2.2).
use Rattle.std.specs.Prelude.{ℕ, ◌≡◌, ◌≢◌, Bool, true, false, ◌&&◌, ◌==◌, nat_lt, Some, List, [], ◌∷◌, ◌++◌, length}
use Rattle.std.specs.List.{flat_map, AllByRecursion}
use Rattle.ls_reader.specs.declared.place.Place.{Place}
use Rattle.ls_reader.specs.declared.character.Syntax.{Syntax}
use Rattle.ls_reader.specs.declared.character.Syntax.TheVariants as syntax_type
use Rattle.ls_reader.specs.declared.datum.Form.{roll-Form}
use Rattle.ls_reader.specs.declared.datum.Form.TheOpen.{Form-F}
use Rattle.ls_reader.specs.declared.fault.FaultKind.{FaultKind}
use Rattle.ls_reader.specs.declared.fault.FaultKind.TheVariants.{BadToken, Unclosed}
use Rattle.ls_reader.specs.declared.sharpsign.Construct.TheVariants as construct_type
use Rattle.ls_reader.specs.declared.token.Token.{Token}
use Rattle.ls_reader.specs.declared.token.Token.TheVariants as token
use Rattle.ls_reader.specs.declared.token.Mark.TheVariants as mark
use Rattle.ls_reader.specs.declared.interpret.Role.{Role}
use Rattle.ls_reader.specs.declared.interpret.Role.TheVariants as role
use Rattle.ls_reader.specs.Characters.{is_blank, is_constituent, is_digit, is_not_newline, goes_on, begins_token, syntax_of}
use Rattle.ls_reader.specs.CharNames.{character}
use Rattle.ls_reader.specs.Comments.{CommentPart, comment_text, IsComment, IsUnended}
use Rattle.ls_reader.specs.Places.{after_all}
use Rattle.ls_reader.specs.Macros.{macro_token, is_splice, construct_of}
use Rattle.ls_reader.specs.Strings.{Inner, inners_text, inner_chars, IsInner}
use Rattle.ls_reader.specs.Tokens.{Part, constituent, single, barred, parts_text, IsPart, chars_of, interpretation}

-- no character of the class comes next
abbrev pub Ends : (ℕ → Bool) → List ℕ → Type 0
Ends p [] = Unit {0}
Ends p (c ∷ cs) = p c ≡ false

-- each is of a class
abbrev pub Are : (ℕ → Bool) → List ℕ → Type 0
Are p text = AllByRecursion (λ c. p c ≡ true) text

-- characters of a class, as many as there are
abbrev pub IsRun : (ℕ → Bool) → List ℕ → List ℕ → Type 0
IsRun p text rest = Are p text × Ends p rest

-- the part can come first in a token: it is not `#`
abbrev pub CanBegin : Part → Type 0
CanBegin (constituent c) = c ≢ 35
CanBegin (single c) = Unit {0}
CanBegin (barred is) = Unit {0}

-- a token that is as long as it can be; or none, where no token stands
abbrev pub IsToken : List Part → List ℕ → Type 0
IsToken [] rest = begins_token rest ≡ false
IsToken (p ∷ ps) rest = CanBegin p × AllByRecursion IsPart (p ∷ ps) × Ends goes_on rest

-- whether digits stand between a `#` and its character
abbrev pub is_counted : List ℕ → Bool
is_counted digits = nat_lt 0 (length digits)

-- A lexeme as it is written.
pub data Written : Type 0 where
  -- whitespace
  blanks : List ℕ → Written
  -- a comment up to the end of the line (2.4.4)
  line : List ℕ → Written
  -- a comment between `#|` and `|#` (2.4.8.19)
  nested : List CommentPart → Written
  -- a bracket, a quote or a backquote, and the token that it is
  macro_char : ℕ → Token → Written
  -- a comma, and one with `@` or `.` behind it (2.4.7)
  lone_comma : Written
  splice : ℕ → Written
  -- a string (2.4.5)
  string : List Inner → Written
  -- a token
  free : List Part → Written
  -- a `#`, digits or none, and a character that takes nothing directly behind it; and the token that they are
  alone : List ℕ → ℕ → Token → Written
  -- a `#` and digits or none, at the end of the text
  cut : List ℕ → Written
  -- `#\`, a character, and constituents (2.4.8.1)
  character_of : ℕ → List ℕ → Written
  -- a `#`, digits or none, a character, and the token directly behind it, which is none where no parts stand
  behind : List ℕ → ℕ → Role → List Part → Written

-- the text of a lexeme
abbrev pub written : Written → List ℕ
written (blanks cs) = cs
written (line cs) = 59 ∷ cs
written (nested ms) = 35 ∷ 124 ∷ (comment_text ms ++ 124 ∷ 35 ∷ [])
written (macro_char c t) = c ∷ []
written lone_comma = 44 ∷ []
written (splice c) = 44 ∷ c ∷ []
written (string is) = 34 ∷ (inners_text is ++ 34 ∷ [])
written (free ps) = parts_text ps
written (alone digits c t) = 35 ∷ (digits ++ c ∷ [])
written (cut digits) = 35 ∷ digits
written (character_of c cs) = 35 ∷ 92 ∷ c ∷ cs
written (behind digits c reads ps) = 35 ∷ (digits ++ c ∷ parts_text ps)

-- what a lexeme is
abbrev pub token_of : Written → Token
token_of (blanks cs) = token.Gap
token_of (line cs) = token.Gap
token_of (nested ms) = token.Gap
token_of (macro_char c t) = t
token_of lone_comma = token.Mark mark.Comma
token_of (splice c) = token.Mark mark.Splice
token_of (string is) = token.Atom (roll-Form (Form-F.Str (inner_chars is)))
token_of (free ps) = interpretation role.Free (chars_of ps)
token_of (alone digits c t) = t
token_of (cut digits) = token.Bad BadToken
token_of (character_of c cs) = token.Atom (character (c ∷ cs))
token_of (behind digits c reads ps) = interpretation reads (chars_of ps)

-- a lexeme is in form, and could not be longer, where the rest follows it
abbrev pub StandsBefore : Written → List ℕ → Type 0
StandsBefore (blanks cs) rest = (cs ≢ []) × IsRun is_blank cs rest
StandsBefore (line cs) rest = IsRun is_not_newline cs rest
StandsBefore (nested ms) rest = IsComment ms
StandsBefore (macro_char c t) rest = macro_token c ≡ Some t
StandsBefore lone_comma rest = Ends is_splice rest
StandsBefore (splice c) rest = is_splice c ≡ true
StandsBefore (string is) rest = AllByRecursion (IsInner 34) is
StandsBefore (free ps) rest = (ps ≢ []) × IsToken ps rest
StandsBefore (alone digits c t) rest = Are is_digit digits × (is_digit c ≡ false)
    × (construct_of (is_counted digits) c ≡ construct_type.Alone t)
StandsBefore (cut digits) rest = Are is_digit digits × (rest ≡ [])
StandsBefore (character_of c cs) rest = IsRun is_constituent cs rest
StandsBefore (behind digits c reads ps) rest = Are is_digit digits × (is_digit c ≡ false)
    × (construct_of (is_counted digits) c ≡ construct_type.Behind reads) × IsToken ps rest

-- the text is the lexeme of a token, where the rest follows it
abbrev pub IsLexeme : Token → List ℕ → List ℕ → Type 0
IsLexeme t text rest = (x : Written) × StandsBefore x rest × (t ≡ token_of x) × (text ≡ written x)

-- an invalid character
abbrev pub is_invalid : Syntax → Bool
is_invalid syntax_type.Invalid = true
is_invalid _ = false

-- whether an invalid character comes first (2.1.4.3)
abbrev pub begins_invalid : List ℕ → Bool
begins_invalid [] = false
begins_invalid (c ∷ cs) = is_invalid (syntax_of c)

-- whether `#|` comes first
abbrev pub begins_comment : List ℕ → Bool
begins_comment [] = false
begins_comment (c ∷ []) = false
begins_comment (c ∷ d ∷ cs) = c == 35 && d == 124

-- A text that no lexeme begins has a fault of this kind, behind this front of it: an invalid character, at it; a
-- comment that is not ended, where the innermost one that is not ended begins; or another construct that is not ended.
pub data IsStuck (cs : List ℕ) (k : FaultKind) (before : List ℕ) : Type 0 where
  invalid : begins_invalid cs ≡ true → k ≡ BadToken → before ≡ [] → IsStuck cs k before
  in_comment : IsUnended cs before → k ≡ Unclosed → IsStuck cs k before
  elsewhere : begins_invalid cs ≡ false → begins_comment cs ≡ false → k ≡ Unclosed → before ≡ [] → IsStuck cs k before

-- a lexeme as it is written, and what it is
pub record Lexeme : Type 0 where
  pub token : Token
  pub text : List ℕ

-- the characters are these lexemes, and then the rest
abbrev pub Lexed : List ℕ → List Lexeme → List ℕ → Type 0
Lexed cs [] rest = cs ≡ rest
Lexed cs (x ∷ xs) rest = (more : List ℕ) × IsLexeme x.token x.text more × (cs ≡ x.text ++ more) × Lexed more xs rest

-- from the place of the first character to the one behind the last
pub record Extent : Type 0 where
  pub from : Place
  pub to : Place

-- a token and where it stands
pub record Piece : Type 0 where
  pub token : Token
  pub at : Extent

-- the piece that a token is; a gap is none
abbrev pub piece : Token → Extent → List Piece
piece token.Gap e = []
piece t e = record { token = t; at = e } ∷ []

-- the pieces of lexemes that begin at a place
abbrev pub pieces : Place → List Lexeme → List Piece
pieces p [] = []
pieces p (x ∷ xs) = piece x.token (record { from = p; to = after_all p x.text }) ++ pieces (after_all p x.text) xs

-- the text of lexemes
abbrev pub text_of : List Lexeme → List ℕ
text_of xs = flat_map (λ x. x.text) xs
