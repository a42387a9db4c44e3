-- What macro characters begin (2.4).
use Rattle.std.specs.Prelude.{ℕ, Bool, true, false, ◌||◌, if◌then◌else◌, ◌==◌, Option, Some, None}
use Rattle.ls_reader.specs.declared.fault.FaultKind.TheVariants.{BadToken, Label}
use Rattle.ls_reader.specs.declared.sharpsign.Construct.{Construct}
use Rattle.ls_reader.specs.declared.sharpsign.Construct.TheVariants.{Comment, Character, Behind, Alone}
use Rattle.ls_reader.specs.declared.token.Token.{Token}
use Rattle.ls_reader.specs.declared.token.Token.TheVariants as token
use Rattle.ls_reader.specs.declared.token.Bracket.TheVariants as bracket
use Rattle.ls_reader.specs.declared.token.Mark.TheVariants as mark
use Rattle.ls_reader.specs.declared.interpret.Role.TheVariants.{Radix, Bits, Uninterned}

-- the token that a bracket, a quote or a backquote is (2.4.1, 2.4.2, 2.4.3, 2.4.6)
abbrev pub macro_token : ℕ → Option Token
macro_token c =
    if c == 40 then Some (token.Open bracket.Round) else
    (if c == 41 then Some token.Close else
    (if c == 39 then Some (token.Mark mark.Quote) else
    (if c == 96 then Some (token.Mark mark.Back) else None)))

-- the at sign and the point, which stand behind a comma in a mark of two characters (2.4.7)
abbrev pub is_splice : ℕ → Bool
is_splice c = c == 64 || c == 46

-- . and C, P, S, A and R in either case, whose datum is not kept (2.4.8.6, 2.4.8.10 to 2.4.8.14)
abbrev pub is_not_kept : ℕ → Bool
is_not_kept c =
    c == 46 || (c == 99 || c == 67) || (c == 112 || c == 80) || (c == 115 || c == 83) || (c == 97 || c == 65)
    || (c == 114 || c == 82)

-- what stands behind `#` and digits: ( and * with a length, what is not kept, = and # of labels; all else is a fault
abbrev pub numbered_construct : ℕ → Construct
numbered_construct c =
    if c == 40 then Alone (token.Open bracket.Odd) else
    (if c == 42 then Behind (Bits true) else
    (if is_not_kept c then Alone (token.Mark mark.Odd) else
    (if c == 61 || c == 35 then Alone (token.Bad Label) else
    Alone (token.Bad BadToken))))

-- what stands behind `#` alone: ( * what is not kept, | \ ' + - : and B, O and X in either case; all else is a fault
abbrev pub plain_construct : ℕ → Construct
plain_construct c =
    if c == 40 then Alone (token.Open bracket.Vector) else
    (if c == 42 then Behind (Bits false) else
    (if is_not_kept c then Alone (token.Mark mark.Odd) else
    (if c == 124 then Comment else
    (if c == 92 then Character else
    (if c == 39 then Alone (token.Mark mark.FunctionOf) else
    (if c == 43 then Alone (token.Feature true) else
    (if c == 45 then Alone (token.Feature false) else
    (if c == 58 then Behind Uninterned else
    (if c == 98 || c == 66 then Behind (Radix 2) else
    (if c == 111 || c == 79 then Behind (Radix 8) else
    (if c == 120 || c == 88 then Behind (Radix 16) else
    Alone (token.Bad BadToken))))))))))))

-- the construct of a character behind a `#`, by whether digits stand between them
unfoldable pub construct_of : Bool → ℕ → Construct
construct_of true c = numbered_construct c
construct_of false c = plain_construct c
