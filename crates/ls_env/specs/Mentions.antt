-- The names that a template's body mentions: those that may be uses in its expansions, whatever the arguments.
use Rattle.std.specs.Prelude.{List, [], ◌∷◌, ◌++◌, codes, Bool, false, ◌&&◌, ◌||◌, Option, Some, None, if◌then◌else◌}
use Rattle.std.specs.List.{flat_map}
use Rattle.ls_object.specs.declared.symbol.Symbol.{Symbol}
use Rattle.ls_object.specs.ObjectText.{is_text}
use Rattle.ls_reader.specs.declared.datum.Datum.{Datum, fold-Datum}
use Rattle.ls_reader.specs.declared.datum.Form.TheOpen.{Form-F, Datum-F}

-- MEMBER, EQL and SATISFIES, whose arguments are no specifiers
abbrev pub takes_objects : Symbol → Bool
takes_objects s =
    is_text s.package (codes "COMMON-LISP")
    && (is_text s.name (codes "MEMBER") || (is_text s.name (codes "EQL") || is_text s.name (codes "SATISFIES")))

-- a datum as a part of a body: the symbol that it is, if it is one, and the symbols that it mentions
pub record Part : Type 0 where
  pub symbol : Option Symbol
  pub mentioned : List Symbol

abbrev pub of_objects : Option Symbol → Bool
of_objects None = false
of_objects (Some s) = takes_objects s

abbrev pub mentioned_in_all : List Part → List Symbol
mentioned_in_all parts = flat_map (λ p. p.mentioned) parts

-- a list with one of these three names in front mentions nothing
abbrev pub mentioned_in_list : List Part → List Symbol
mentioned_in_list [] = []
mentioned_in_list (head ∷ parts) = if of_objects head.symbol then [] else mentioned_in_all (head ∷ parts)

-- what commas and splices hold is no mention: it is a parameter
abbrev pub mentioned_in : Form-F Part Part → List Symbol
mentioned_in (Form-F.Symbol s) = s ∷ []
mentioned_in (Form-F.List parts) = mentioned_in_list parts
mentioned_in (Form-F.Dotted parts last) = mentioned_in_all parts ++ last.mentioned
mentioned_in (Form-F.Vector parts) = mentioned_in_all parts
mentioned_in (Form-F.Quote of) = of.mentioned
mentioned_in (Form-F.Back of) = of.mentioned
mentioned_in (Form-F.FunctionOf of) = of.mentioned
mentioned_in _ = []

abbrev pub symbol_of_part : Form-F Part Part → Option Symbol
symbol_of_part (Form-F.Symbol s) = Some s
symbol_of_part _ = None

abbrev pub part_step : Form-F Part Part → Part
part_step f = record { symbol = symbol_of_part f; mentioned = mentioned_in f }

abbrev pub datum_step : Datum-F Part Part → Part
datum_step d = d.form

abbrev pub part : Datum → Part
part = fold-Datum Part Part part_step datum_step

-- the symbols that a body mentions, in order
abbrev pub mentions : Datum → List Symbol
mentions d = (part d).mentioned
