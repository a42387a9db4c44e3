-- Arguments whose values are known without evaluation: what is quoted, and constants (3.1.2.1, QUOTE).
use Rattle.std.specs.Prelude.{List, [], ◌∷◌, codes, Bool, false, ◌&&◌, ◌||◌, Option, Some, None, if◌then◌else◌}
use Rattle.ls_object.specs.declared.symbol.Symbol.{Symbol}
use Rattle.ls_object.specs.ObjectText.{is_text}
use Rattle.ls_reader.specs.declared.datum.Datum.{Datum}
use Rattle.ls_reader.specs.declared.datum.Form.{Form, out-Form}
use Rattle.ls_reader.specs.declared.datum.Form.TheOpen.{Form-F}

-- the symbol QUOTE
abbrev pub is_quote : Symbol → Bool
is_quote s = is_text s.package (codes "COMMON-LISP") && is_text s.name (codes "QUOTE")

-- T, NIL and the keywords, each of which is its own value
abbrev pub is_constant : Symbol → Bool
is_constant s =
    if is_text s.package (codes "COMMON-LISP") then is_text s.name (codes "T") || is_text s.name (codes "NIL")
    else is_text s.package (codes "KEYWORD")

abbrev pub is_quote_form : Form-F Form Datum → Bool
is_quote_form (Form-F.Symbol s) = is_quote s
is_quote_form _ = false

-- the datum that is quoted in a list `(quote x)`
abbrev pub quoted_in : List Datum → Option Datum
quoted_in (head ∷ d ∷ []) = if is_quote_form (out-Form head.form) then Some d else None
quoted_in _ = None

abbrev pub value_of_form : Datum → Form-F Form Datum → Option Datum
value_of_form d (Form-F.Quote quoted) = Some quoted
value_of_form d (Form-F.List items) = quoted_in items
value_of_form d (Form-F.Symbol s) = if is_constant s then Some d else None
value_of_form d _ = None

-- the value of an argument that needs no evaluation; `'x` and `(quote x)` are the same
abbrev pub value_of : Datum → Option Datum
value_of d = value_of_form d (out-Form d.form)
