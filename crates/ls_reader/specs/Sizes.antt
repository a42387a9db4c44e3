-- How many data stand in a datum, itself included.
use Rattle.std.specs.Prelude.{ℕ, ◌+◌, List, map, sum}
use Rattle.ls_reader.specs.declared.datum.Datum.{Datum, fold-Datum}
use Rattle.ls_reader.specs.declared.datum.Form.{Form, fold-Form}
use Rattle.ls_reader.specs.declared.datum.Form.TheOpen.{Form-F, Datum-F}

-- one level, with the size of each datum inside in its place
abbrev pub form_step : Form-F ℕ ℕ → ℕ
form_step (Form-F.List items) = sum items + 1
form_step (Form-F.Dotted items last) = sum items + last + 1
form_step (Form-F.Vector items) = sum items + 1
form_step (Form-F.Quote of) = of + 1
form_step (Form-F.Back of) = of + 1
form_step (Form-F.Comma of) = of + 1
form_step (Form-F.Splice of) = of + 1
form_step (Form-F.FunctionOf of) = of + 1
form_step _ = 1

abbrev pub datum_step : Datum-F ℕ ℕ → ℕ
datum_step d = d.form

-- the count of data in a datum, and in a form, where the form itself is one
abbrev pub size : Datum → ℕ
size = fold-Datum ℕ ℕ form_step datum_step

abbrev pub form_size : Form → ℕ
form_size = fold-Form ℕ ℕ form_step datum_step

-- the count of data in all of them
abbrev pub size_all : List Datum → ℕ
size_all ds = sum (map size ds)
