-- Types and tokens that the reader's crate keeps to itself, by what the reader's definitions give.
use Rattle.std.proofs.Common.{◌≡◌, Option, Some, None, [], ◌++◌, refl}
use Rattle.ls_reader.specs.Data.{listed, marked as made_marked}
use Rattle.ls_reader.specs.Lexemes.{Extent, blanks, token_of, piece}
use Rattle.ls_reader.specs.Macros.{macro_token}
use Rattle.ls_reader.specs.Places.{start}
use Rattle.ls_reader.specs.Trees.{Tree, Trees, list, marked, none, tree_pieces, trees_pieces}

-- the type of a value
abbrev type_of : {A : Type 0} → A → Type 0
type_of {A} a = A

-- the type of what a function takes
abbrev argument_of : {A B : Type 0} → (A → B) → Type 0
argument_of {A} f = A

-- a place in a text
abbrev pub Place : Type 0
Place = type_of start

-- what a lexeme is
abbrev pub Token : Type 0
Token = type_of (token_of (blanks []))

-- the token of a blank
abbrev pub gap : Token
gap = token_of (blanks [])

-- the token of a macro character
abbrev token_by : Option Token → Token
token_by (Some t) = t
token_by None = gap

abbrev pub open_bracket : Token
open_bracket = token_by (macro_token 40)

abbrev pub close_bracket : Token
close_bracket = token_by (macro_token 41)

abbrev pub quote_mark : Token
quote_mark = token_by (macro_token 39)

-- the kind of the brackets that are macro characters
abbrev round_is : (kind : argument_of listed)
    × ((o c : Extent) (ts : Trees) → tree_pieces (list kind o ts c)
    ≡ piece open_bracket o ++ (trees_pieces ts ++ piece close_bracket c))
round_is = (_, λ o c ts. refl)

abbrev pub round : argument_of listed
round = round_is.0

-- the mark that is a quote
abbrev quote_is : (kind : argument_of made_marked)
    × ((e : Extent) (t : Tree) → tree_pieces (marked kind e none t) ≡ piece quote_mark e ++ tree_pieces t)
quote_is = (_, λ e t. refl)

abbrev pub quote : argument_of made_marked
quote = quote_is.0
