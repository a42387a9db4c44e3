-- The lexeme at the front of a text, from left to right (2.2). Nothing of this needs to be believed: it is what the
-- code does, and the lexemes of Lexemes.antt are proved of it.
use Rattle.std.specs.List.{prefix_len}
use Rattle.std.specs.Prelude.{ℕ, Bool, true, false, if◌then◌else◌, ◌==◌, ◌||◌, ◌≡◌, nat_lt, List, [], ◌∷◌, take, drop, Option, Some, None, Result, Ok, Err}
use Rattle.ls_reader.specs.declared.character.Syntax.{Syntax}
use Rattle.ls_reader.specs.declared.character.Syntax.TheVariants as syntax_type
use Rattle.ls_reader.specs.declared.datum.Form.{roll-Form}
use Rattle.ls_reader.specs.declared.datum.Form.TheOpen.{Form-F}
use Rattle.ls_reader.specs.declared.fault.FaultKind.{FaultKind}
use Rattle.ls_reader.specs.declared.fault.FaultKind.TheVariants.{BadToken, Unclosed}
use Rattle.ls_reader.specs.declared.fault.Stop.{Stop}
use Rattle.ls_reader.specs.declared.fault.Stop.TheVariants as stop
use Rattle.ls_reader.specs.declared.sharpsign.Construct.{Construct}
use Rattle.ls_reader.specs.declared.sharpsign.Construct.TheVariants as construct_type
use Rattle.ls_reader.specs.declared.token_char.TokenChar.{TokenChar}
use Rattle.ls_reader.specs.declared.token_char.TokenChar.TheVariants.{Plain, Exact, Escape}
use Rattle.ls_reader.specs.declared.token.Token.{Token}
use Rattle.ls_reader.specs.declared.token.Token.TheVariants as token
use Rattle.ls_reader.specs.declared.token.Mark.TheVariants as mark
use Rattle.ls_reader.specs.declared.interpret.Role.{Role}
use Rattle.ls_reader.specs.declared.interpret.Role.TheVariants as role
use Rattle.ls_reader.specs.declared.interpret.Mode.{Mode}
use Rattle.ls_reader.specs.declared.interpret.Mode.TheVariants.{Outside, Single, Bars, BarsSingle}
use Rattle.ls_reader.specs.declared.interpret.Step.{Step}
use Rattle.ls_reader.specs.declared.interpret.Step.TheVariants.{End, Skip, Keep}
use Rattle.ls_reader.specs.Characters.{is_blank, is_constituent, is_digit, is_not_newline, is_sign, syntax_of}
use Rattle.ls_reader.specs.Numbers.{is_digit_in}
use Rattle.ls_reader.specs.CharNames.{character}
use Rattle.ls_reader.specs.steps.Delimited.{with_first, content, comment}
use Rattle.ls_reader.specs.Macros.{macro_token, is_splice, construct_of}
use Rattle.ls_reader.specs.Tokens.{interpretation}

-- a fault, and how many characters stand before its place
abbrev pub LocalFault : Type 0
LocalFault = FaultKind × ℕ

-- an error is that of the function, or memory ran out
abbrev pub Fails : {Y : Type 0} → Stop → Result Y LocalFault → Type 0
Fails stop.Memory read = Unit {0}
Fails (stop.Fault k n) read = read ≡ Err (k, n)

-- What was returned, seen by view, is what the function gives, unless memory ran out.
abbrev pub Gives : {X Y : Type 0} → (X → Y) → Result X Stop → Result Y LocalFault → Type 0
Gives view (Ok x) read = read ≡ Ok (view x)
Gives view (Err e) read = Fails e read

-- a fault of this kind at the front
abbrev pub at_front : {X : Type 0} → Result X FaultKind → Result X LocalFault
at_front (Ok x) = Ok x
at_front (Err k) = Err (k, 0)

-- ---- tokens

-- whether a token begins as a number, a dot or dots do; an empty one counts as such too
abbrev pub may_be_number : List ℕ → Bool
may_be_number [] = true
may_be_number (c ∷ cs) = is_digit_in 10 c || (is_sign c || c == 46)

-- what a character of a token does, by what came before it
abbrev pub outside_step : ℕ → Step
outside_step c =
    if is_constituent c then Keep Outside (Plain c) else
    (if c == 92 then Skip Single else
    (if c == 124 then Keep Bars Escape else End))

-- the same between bars
abbrev pub bars_step : ℕ → Step
bars_step c =
    if c == 124 then Skip Outside else
    (if c == 92 then Skip BarsSingle else Keep Bars (Exact c))

abbrev pub step_of : Mode → ℕ → Step
step_of Outside c = outside_step c
step_of Single c = Keep Outside (Exact c)
step_of Bars c = bars_step c
step_of BarsSingle c = Keep Bars (Exact c)

-- the characters behind a character
abbrev pub after_step : Step → List ℕ → (Mode → Result (List TokenChar × List ℕ) FaultKind)
    → Result (List TokenChar × List ℕ) FaultKind
after_step End here next = Ok ([], here)
after_step (Skip mode) here next = next mode
after_step (Keep mode s) here next = with_first s (next mode)

-- whether the text may end here, where no escape is begun
abbrev pub may_end : Mode → Result (Unit {0}) LocalFault
may_end Outside = Ok tt
may_end Single = Err (Unclosed, 0)
may_end Bars = Err (Unclosed, 0)
may_end BarsSingle = Err (Unclosed, 0)

-- the characters at the end of a text
abbrev pub at_end : Mode → Result (List TokenChar × List ℕ) FaultKind
at_end Outside = Ok ([], [])
at_end Single = Err Unclosed
at_end Bars = Err Unclosed
at_end BarsSingle = Err Unclosed

-- whether an escape comes first
abbrev pub begins_escape : List ℕ → Bool
begins_escape [] = false
begins_escape (c ∷ cs) = c == 92 || c == 124

-- the characters of the token that comes first, and the rest, by what came before
unfoldable pub scan : Mode → List ℕ → Result (List TokenChar × List ℕ) FaultKind
scan mode [] = at_end mode
scan mode (c ∷ cs) = after_step (step_of mode c) (c ∷ cs) (λ next. scan next cs)

-- the token that characters are, and the rest
abbrev pub as_token : Role → Result (List TokenChar × List ℕ) FaultKind → Result (Token × List ℕ) LocalFault
as_token role (Ok x) = Ok (interpretation role x.0, x.1)
as_token role (Err k) = Err (k, 0)

-- the token that comes first
abbrev pub token_at : Role → List ℕ → Result (Token × List ℕ) LocalFault
token_at role cs = as_token role (scan Outside cs)

-- the token directly behind a construct's character, where `#` begins none
abbrev pub token_behind : Role → List ℕ → Result (Token × List ℕ) LocalFault
token_behind role [] = token_at role []
token_behind role (c ∷ cs) = if c == 35 then Ok (interpretation role [], c ∷ cs) else token_at role (c ∷ cs)

-- ---- strings, comments and characters

abbrev pub as_string : Result (List ℕ × List ℕ) FaultKind → Result (Token × List ℕ) LocalFault
as_string (Ok x) = Ok (token.Atom (roll-Form (Form-F.Str x.0)), x.1)
as_string (Err k) = Err (k, 0)

abbrev pub as_gap : Result (List ℕ) LocalFault → Result (Token × List ℕ) LocalFault
as_gap (Ok rest) = Ok (token.Gap, rest)
as_gap (Err x) = Err x

-- the character behind `#\`, with the constituents that follow it
abbrev pub character_at : List ℕ → Result (Token × List ℕ) LocalFault
character_at [] = Err (Unclosed, 0)
character_at (c ∷ cs) =
    let n = prefix_len is_constituent cs in Ok (token.Atom (character (c ∷ take n cs)), drop n cs)

-- ---- macro characters

-- what a construct is, with the text behind its character
abbrev pub construct_at : Construct → List ℕ → Result (Token × List ℕ) LocalFault
construct_at construct_type.Comment cs = as_gap (comment 0 [] 2 None cs)
construct_at construct_type.Character cs = character_at cs
construct_at (construct_type.Behind role) cs = token_behind role cs
construct_at (construct_type.Alone t) cs = Ok (t, cs)

-- the same behind the digits, if there are some
abbrev pub behind_count : Bool → List ℕ → Result (Token × List ℕ) LocalFault
behind_count counted [] = Ok (token.Bad BadToken, [])
behind_count counted (c ∷ cs) = construct_at (construct_of counted c) cs

-- behind a `#`
abbrev pub sharpsign : List ℕ → Result (Token × List ℕ) LocalFault
sharpsign cs = let n = prefix_len is_digit cs in behind_count (nat_lt 0 n) (drop n cs)

-- behind a comma (2.4.7)
abbrev pub comma : List ℕ → Token × List ℕ
comma [] = (token.Mark mark.Comma, [])
comma (c ∷ cs) = if is_splice c then (token.Mark mark.Splice, cs) else (token.Mark mark.Comma, c ∷ cs)

-- the other macro characters: a comma, a comment up to the end of the line, a string
abbrev pub other_macro : ℕ → List ℕ → Result (Token × List ℕ) LocalFault
other_macro c cs =
    if c == 44 then Ok (comma cs) else
    (if c == 59 then Ok (token.Gap, drop (prefix_len is_not_newline cs) cs) else as_string (content false cs))

-- a macro character that ends the token before it
abbrev pub macro_at : Option Token → ℕ → List ℕ → Result (Token × List ℕ) LocalFault
macro_at (Some t) c cs = Ok (t, cs)
macro_at None c cs = other_macro c cs

-- ---- the whole

-- the lexeme that begins with a character of a type
abbrev pub lexeme_by : Syntax → ℕ → List ℕ → Result (Token × List ℕ) LocalFault
lexeme_by syntax_type.Whitespace c cs = Ok (token.Gap, drop (prefix_len is_blank cs) cs)
lexeme_by syntax_type.Invalid c cs = Err (BadToken, 0)
lexeme_by syntax_type.Terminating c cs = macro_at (macro_token c) c cs
lexeme_by syntax_type.Sharp c cs = sharpsign cs
lexeme_by syntax_type.Constituent c cs = token_at role.Free (c ∷ cs)
lexeme_by syntax_type.SingleEscape c cs = token_at role.Free (c ∷ cs)
lexeme_by syntax_type.MultipleEscape c cs = token_at role.Free (c ∷ cs)

-- the lexeme that comes first, and what follows it
unfoldable pub lexeme : List ℕ → Result (Token × List ℕ) LocalFault
lexeme [] = Err (Unclosed, 0)
lexeme (c ∷ cs) = lexeme_by (syntax_of c) c cs
