-- The symbols that a DEFTYPE form means something by.
use Rattle.std.specs.Prelude.{ℕ, Bool, false, ◌&&◌, ◌||◌, ◌==◌, List, [], ◌∷◌, codes, encode_utf8_all, Option, Some, None, if◌then◌else◌}
use Rattle.ls_object.specs.declared.symbol.Symbol.{Symbol}
use Rattle.ls_object.specs.ObjectText.{is_text}
use Rattle.ls_reader.specs.declared.datum.Datum.{Datum}
use Rattle.ls_reader.specs.declared.datum.Form.{Form, out-Form}
use Rattle.ls_reader.specs.declared.datum.Form.TheOpen.{Form-F}

-- the symbol of that name in the package COMMON-LISP
abbrev pub is_lisp : List ℕ → Symbol → Bool
is_lisp name s = is_text s.package (codes "COMMON-LISP") && is_text s.name name

-- T, NIL and the keywords, each of which is its own value
abbrev pub is_constant : Symbol → Bool
is_constant s =
    if is_text s.package (codes "COMMON-LISP") then is_text s.name (codes "T") || is_text s.name (codes "NIL")
    else is_text s.package (codes "KEYWORD")

abbrev pub begins_with : ℕ → List ℕ → Bool
begins_with c [] = false
begins_with c (x ∷ xs) = x == c

-- a lambda keyword: its name, in UTF-8, begins with `&` (3.4.1)
abbrev pub is_lambda_keyword : Symbol → Bool
is_lambda_keyword s = begins_with 38 (encode_utf8_all s.name)

abbrev pub symbol_in : Form-F Form Datum → Option Symbol
symbol_in (Form-F.Symbol s) = Some s
symbol_in _ = None

-- the symbol that a datum is, if it is one
abbrev pub symbol_of : Datum → Option Symbol
symbol_of d = symbol_in (out-Form d.form)

abbrev pub passes : (Symbol → Bool) → Option Symbol → Bool
passes test None = false
passes test (Some s) = test s

-- whether a datum is a symbol that passes the test
abbrev pub is_symbol : (Symbol → Bool) → Datum → Bool
is_symbol test d = passes test (symbol_of d)
