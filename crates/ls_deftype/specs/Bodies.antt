-- The body of a DEFTYPE form: the one form behind its declarations and its documentation string (3.4.11).
use Rattle.std.specs.Prelude.{◌-◌, Bool, true, false, ◌&&◌, ◌||◌, nat_le, List, ◌∷◌, codes, length, take, slice_get, count_by, Option, Some, None, if◌then◌else◌}
use Rattle.std.specs.List.{list_all}
use Rattle.ls_reader.specs.declared.datum.Datum.{Datum}
use Rattle.ls_reader.specs.declared.datum.Form.{Form, out-Form}
use Rattle.ls_reader.specs.declared.datum.Form.TheOpen.{Form-F}
use Rattle.ls_deftype.specs.Symbols.{is_lisp, is_symbol}
use Rattle.ls_deftype.specs.Quoting.{quoted}

-- a body: a datum that is quoted, or one that is backquoted
pub record Body : Type 0 where
  pub backquoted : Bool
  pub datum : Datum

abbrev pub headed : Form-F Form Datum → Bool
headed (Form-F.List (head ∷ ds)) = is_symbol (is_lisp (codes "DECLARE")) head
headed _ = false

-- a declaration: a list with the head DECLARE (3.3)
abbrev pub is_declaration : Datum → Bool
is_declaration d = headed (out-Form d.form)

abbrev pub string_form : Form-F Form Datum → Bool
string_form (Form-F.Str text) = true
string_form _ = false

abbrev pub is_string : Datum → Bool
is_string d = string_form (out-Form d.form)

abbrev pub is_preface : Datum → Bool
is_preface d = is_declaration d || is_string d

-- what may stand before a body, in any order: declarations, and at most one documentation string
abbrev pub may_precede : List Datum → Bool
may_precede ds = list_all is_preface ds && nat_le (count_by is_string ds) 1

abbrev pub plain_body : Option Datum → Option Body
plain_body None = None
plain_body (Some d) = Some (record { backquoted = false; datum = d })

abbrev pub body_form : Datum → Form-F Form Datum → Option Body
body_form d (Form-F.Back of) = Some (record { backquoted = true; datum = of })
body_form d (Form-F.Symbol s) =
    if is_lisp (codes "T") s || is_lisp (codes "NIL") s then plain_body (Some d) else None
body_form d _ = plain_body (quoted d)

-- what a form is as a body: quoted or backquoted data, T or NIL
abbrev pub body_of : Datum → Option Body
body_of d = body_form d (out-Form d.form)

abbrev pub body_behind : List Datum → Option Datum → Option Body
body_behind ds None = None
body_behind ds (Some last) = if may_precede ds then body_of last else None

-- the one body of forms: the last of them, where those before it may precede it
abbrev pub sole_body : List Datum → Option Body
sole_body forms = body_behind (take (length forms - 1) forms) (slice_get forms (length forms - 1))
