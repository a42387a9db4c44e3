-- Quoted data (QUOTE, 2.4.3), and lists that may be empty (2.4.1).
use Rattle.std.specs.Prelude.{List, [], ◌∷◌, codes, Option, Some, None, if◌then◌else◌}
use Rattle.ls_object.specs.ObjectText.{is_nil}
use Rattle.ls_reader.specs.declared.datum.Datum.{Datum}
use Rattle.ls_reader.specs.declared.datum.Form.{Form, out-Form}
use Rattle.ls_reader.specs.declared.datum.Form.TheOpen.{Form-F}
use Rattle.ls_deftype.specs.Symbols.{is_lisp, is_symbol}

-- the datum that is quoted in a list `(quote x)`
abbrev pub quoted_in : List Datum → Option Datum
quoted_in (head ∷ d ∷ []) = if is_symbol (is_lisp (codes "QUOTE")) head then Some d else None
quoted_in _ = None

abbrev pub quoted_form : Form-F Form Datum → Option Datum
quoted_form (Form-F.Quote of) = Some of
quoted_form (Form-F.List items) = quoted_in items
quoted_form _ = None

-- the datum that a datum quotes; `'x` and `(quote x)` are the same
abbrev pub quoted : Datum → Option Datum
quoted d = quoted_form (out-Form d.form)

abbrev pub items_form : Form-F Form Datum → Option (List Datum)
items_form (Form-F.List items) = Some items
items_form (Form-F.Symbol s) = if is_nil s then Some [] else None
items_form _ = None

-- the items of a list, which NIL is too
abbrev pub items_of : Datum → Option (List Datum)
items_of d = items_form (out-Form d.form)
