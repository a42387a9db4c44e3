-- Where commas may stand in a body, and which of them (2.4.6).
use Rattle.std.specs.Prelude.{Bool, true, false, not, ◌&&◌, List, Option, Some, None, if◌then◌else◌}
use Rattle.std.specs.List.{list_all}
use Rattle.std.specs.Option.{is_some}
use Rattle.ls_object.specs.declared.symbol.Symbol.{Symbol}
use Rattle.ls_object.specs.Symbols.{same_symbol}
use Rattle.ls_reader.specs.declared.datum.Datum.{Datum, fold-Datum}
use Rattle.ls_reader.specs.declared.datum.Form.TheOpen.{Form-F, Datum-F}
use Rattle.ls_deftype.specs.declared.mark.Place.{Place}
use Rattle.ls_deftype.specs.declared.mark.Place.TheVariants as place
use Rattle.ls_deftype.specs.Names.{place_of}

-- what a body is judged by: whether it is backquoted, the names of the parameters, and the rest parameter
pub record Rules : Type 0 where
  pub backquoted : Bool
  pub names : List Symbol
  pub rest : Option Symbol

-- a datum as a part of a body: the symbol that it is, if it is one, and at which places it may stand
pub record Part : Type 0 where
  pub symbol : Option Symbol
  pub fits : Place → Bool

-- the symbol of a parameter
abbrev pub is_parameter : List Symbol → Option Symbol → Bool
is_parameter names None = false
is_parameter names (Some s) = is_some (place_of names s)

-- the symbol of the rest parameter
abbrev pub is_rest : Option Symbol → Option Symbol → Bool
is_rest (Some r) (Some s) = same_symbol s r
is_rest _ _ = false

-- a place within a datum at another place: within a vector nothing is filled in
abbrev pub within : Place → Place → Place
within place.Fixed inner = place.Fixed
within _ inner = inner

-- a comma holds a parameter; behind a dot, the rest parameter
abbrev pub comma_fits : Rules → Option Symbol → Place → Bool
comma_fits r s place.Fixed = false
comma_fits r s place.Tail = is_rest r.rest s
comma_fits r s _ = is_parameter r.names s

-- a splice holds the rest parameter, and stands in a list
abbrev pub splice_fits : Rules → Option Symbol → Place → Bool
splice_fits r s place.Element = is_rest r.rest s
splice_fits r s _ = false

abbrev pub all_fit : Place → List Part → Bool
all_fit at parts = list_all (λ p. p.fits at) parts

abbrev pub fits_form : Rules → Form-F Part Part → Place → Bool
fits_form r (Form-F.List parts) at = all_fit (within at place.Element) parts
fits_form r (Form-F.Dotted parts last) at = all_fit (within at place.Alone) parts && last.fits (within at place.Tail)
fits_form r (Form-F.Vector parts) at = all_fit place.Fixed parts
fits_form r (Form-F.Quote of) at = of.fits (within at place.Alone)
fits_form r (Form-F.FunctionOf of) at = of.fits (within at place.Alone)
fits_form r (Form-F.Back of) at = not r.backquoted && of.fits (within at place.Alone)
fits_form r (Form-F.Comma of) at = comma_fits r of.symbol at
fits_form r (Form-F.Splice of) at = splice_fits r of.symbol at
fits_form r _ at = true

abbrev pub symbol_of_part : Form-F Part Part → Option Symbol
symbol_of_part (Form-F.Symbol s) = Some s
symbol_of_part _ = None

-- one level, with each datum inside already seen as a part
abbrev pub part_step : Rules → Form-F Part Part → Part
part_step r f = record { symbol = symbol_of_part f; fits = fits_form r f }

abbrev pub datum_step : Datum-F Part Part → Part
datum_step d = d.form

-- a datum as a part of a body
abbrev pub part : Rules → Datum → Part
part r = fold-Datum Part Part (part_step r) datum_step

abbrev pub first_place : Bool → Place
first_place backquoted = if backquoted then place.Alone else place.Fixed

-- whether the commas, splices and backquotes of a body stand where they may; in quoted data none may
abbrev pub is_sound : Rules → Datum → Bool
is_sound r d = (part r d).fits (first_place r.backquoted)
