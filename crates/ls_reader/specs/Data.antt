-- The data that tokens, brackets and marks make, each with its span.
use Rattle.std.specs.Prelude.{ℕ, Bool, true, false, if◌then◌else◌, List, [], ◌∷◌, ◌++◌}
use Rattle.ls_reader.specs.declared.place.Place.{Place}
use Rattle.ls_reader.specs.declared.datum.Datum.{Datum}
use Rattle.ls_reader.specs.declared.datum.Form.{Form, roll-Form, out-Form}
use Rattle.ls_reader.specs.declared.datum.Form.TheOpen.{Form-F}
use Rattle.ls_reader.specs.declared.token.Bracket.{Bracket}
use Rattle.ls_reader.specs.declared.token.Bracket.TheVariants as bracket
use Rattle.ls_reader.specs.declared.token.Mark.{Mark}
use Rattle.ls_reader.specs.declared.token.Mark.TheVariants as mark
use Rattle.ls_object.specs.Symbols.{nil_symbol}
use Rattle.ls_object.specs.ObjectText.{is_nil}

-- a form that begins at a place and ends before a byte
abbrev pub datum : Place → ℕ → Form → Datum
datum from end form =
    record { span = record { start = from.byte; end = end; line = from.line; column = from.column }; form = form }

-- the place where a datum begins
abbrev pub start_of : Datum → Place
start_of d = record { byte = d.span.start; line = d.span.line; column = d.span.column }

-- what brackets with these data in them are: a list, or NIL where there are none (2.4.1), or a vector (2.4.8.3)
abbrev pub listed : Bracket → List Datum → Form
listed bracket.Round [] = roll-Form (Form-F.Symbol nil_symbol)
listed bracket.Round (d ∷ ds) = roll-Form (Form-F.List (d ∷ ds))
listed bracket.Vector ds = roll-Form (Form-F.Vector ds)
listed bracket.Odd ds = roll-Form Form-F.Odd

-- what a mark and its datum are (2.4.3, 2.4.6, 2.4.7, 2.4.8)
abbrev pub marked : Mark → Datum → Form
marked mark.Quote of = roll-Form (Form-F.Quote of)
marked mark.Back of = roll-Form (Form-F.Back of)
marked mark.Comma of = roll-Form (Form-F.Comma of)
marked mark.Splice of = roll-Form (Form-F.Splice of)
marked mark.FunctionOf of = roll-Form (Form-F.FunctionOf of)
marked mark.Odd of = roll-Form Form-F.Odd

-- whether a dot may stand behind these data: in a list, behind at least one
abbrev pub takes_dot : Bracket → List Datum → Bool
takes_dot bracket.Round (d ∷ ds) = true
takes_dot _ _ = false

-- what data, a dot and a datum of this form are: one longer list where that is a list, a dotted list or NIL
abbrev pub joined : List Datum → Datum → Form-F Form Datum → Form
joined items last (Form-F.List more) = roll-Form (Form-F.List (items ++ more))
joined items last (Form-F.Dotted more end) = roll-Form (Form-F.Dotted (items ++ more) end)
joined items last (Form-F.Symbol symbol) =
    if is_nil symbol then roll-Form (Form-F.List items) else roll-Form (Form-F.Dotted items last)
joined items last _ = roll-Form (Form-F.Dotted items last)

-- what brackets with these data, a dot and a datum in them are (2.4.1)
abbrev pub dotted : List Datum → Datum → Form
dotted items last = joined items last (out-Form last.form)

-- the datum of brackets that begin at a place and end before another
abbrev pub list : Bracket → Place → Place → List Datum → Datum
list kind from to items = datum from to.byte (listed kind items)

-- the datum of brackets with a dot in them; the span is that of the brackets
abbrev pub dotted_list : Place → Place → List Datum → Datum → Datum
dotted_list from to items last = datum from to.byte (dotted items last)

-- the datum of a mark and its datum
abbrev pub mark_on : Mark → Place → Datum → Datum
mark_on kind from of = datum from of.span.end (marked kind of)
