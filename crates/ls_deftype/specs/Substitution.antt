-- A template with arguments put in, as written data.
use Rattle.std.specs.Prelude.{List, [], ◌∷◌, ◌++◌, map, Option, Some, None, if◌then◌else◌}
use Rattle.std.specs.List.{flat_map}
use Rattle.ls_object.specs.declared.symbol.Symbol.{Symbol}
use Rattle.ls_reader.specs.declared.datum.Span.{Span}
use Rattle.ls_reader.specs.declared.datum.Datum.{Datum, fold-Datum}
use Rattle.ls_reader.specs.declared.datum.Form.{Form}
use Rattle.ls_reader.specs.declared.datum.Form.TheOpen.{Form-F, Datum-F}
use Rattle.ls_deftype.specs.Marks.{is_rest}
use Rattle.ls_deftype.specs.Templates.{Definition}
use Rattle.ls_deftype.specs.Arguments.{Use, datum, listed, rest_args, value_of}

-- what stands in the place of a datum of the body
pub record Filled : Type 0 where
  -- the symbol that the datum is, if it is one
  pub symbol : Option Symbol
  -- the datum in its place
  pub one : Datum
  -- the data in its place, where it is an element of a list
  pub all : List Datum
  -- the data in its place, where it is a comma of the rest parameter behind a dot
  pub spliced : Option (List Datum)

-- a datum that is no mark, with this in its place
abbrev pub single : Span → Form-F Form Datum → Filled
single at form = record { symbol = None; one = datum at form; all = datum at form ∷ []; spliced = None }

abbrev pub or_kept : Datum → Option Datum → Datum
or_kept d None = d
or_kept d (Some x) = x

-- a comma: what the parameter stands for. One that holds no parameter stays
abbrev pub comma : Use → Span → Filled → Filled
comma u at of =
    let d = or_kept (datum at (Form-F.Comma of.one)) (value_of u of.symbol) in
    record {
      symbol = None;
      one = d;
      all = d ∷ [];
      spliced = if is_rest u.template.rest of.symbol then Some (rest_args u) else None;
    }

-- a splice: the arguments of the rest parameter, in a list. Any other one stays
abbrev pub splice : Use → Span → Filled → Filled
splice u at of =
    let d = datum at (Form-F.Splice of.one) in
    record {
      symbol = None;
      one = d;
      all = if is_rest u.template.rest of.symbol then rest_args u else d ∷ [];
      spliced = None;
    }

-- data with another behind a dot, or with a list spliced behind them
abbrev pub dotted : Span → List Datum → Filled → Option (List Datum) → Datum
dotted at ds last (Some more) = listed at (ds ++ more)
dotted at ds last None = datum at (Form-F.Dotted ds last.one)

abbrev pub whole : Datum → Filled
whole d = record { symbol = None; one = d; all = d ∷ []; spliced = None }

-- one level, with what stands in the place of each datum inside
abbrev pub fill_step : Use → Form-F (Span → Filled) Filled → Span → Filled
fill_step u (Form-F.Symbol s) at = record (single at (Form-F.Symbol s)) { symbol = Some s }
fill_step u (Form-F.Number n) at = single at (Form-F.Number n)
fill_step u (Form-F.Float format) at = single at (Form-F.Float format)
fill_step u (Form-F.Char c) at = single at (Form-F.Char c)
fill_step u (Form-F.Str text) at = single at (Form-F.Str text)
fill_step u (Form-F.List parts) at = whole (listed at (flat_map (λ p. p.all) parts))
fill_step u (Form-F.Dotted parts last) at = whole (dotted at (map (λ p. p.one) parts) last last.spliced)
fill_step u (Form-F.Vector parts) at = single at (Form-F.Vector (map (λ p. p.one) parts))
fill_step u (Form-F.Bits count) at = single at (Form-F.Bits count)
fill_step u (Form-F.Quote of) at = single at (Form-F.Quote of.one)
fill_step u (Form-F.Back of) at = single at (Form-F.Back of.one)
fill_step u (Form-F.Comma of) at = comma u at of
fill_step u (Form-F.Splice of) at = splice u at of
fill_step u (Form-F.FunctionOf of) at = single at (Form-F.FunctionOf of.one)
fill_step u Form-F.Odd at = single at Form-F.Odd

abbrev pub datum_step : Datum-F (Span → Filled) Filled → Filled
datum_step d = d.form d.span

abbrev pub filled : Use → Datum → Filled
filled u = fold-Datum (Span → Filled) Filled (fill_step u) datum_step

-- the body of a template with the arguments in the places of its commas and splices; the data of the body and the
-- arguments keep their spans, and the list of the rest parameter has that of the use
abbrev pub substituted : Definition → Span → List Datum → Datum
substituted t at args = (filled (record { template = t; place = at; args = args }) t.body).one
