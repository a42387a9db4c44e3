-- The arguments of a use of a template.
use Rattle.std.specs.Prelude.{ℕ, ◌-◌, Bool, ◌&&◌, ◌||◌, nat_le, List, [], ◌∷◌, ◌++◌, length, take, drop, map, slice_get, Option, Some, None, option_to_list}
use Rattle.std.specs.Option.{is_some}
use Rattle.ls_object.specs.declared.symbol.Symbol.{Symbol}
use Rattle.ls_object.specs.Symbols.{nil_symbol}
use Rattle.ls_reader.specs.declared.datum.Span.{Span}
use Rattle.ls_reader.specs.declared.datum.Datum.{Datum}
use Rattle.ls_reader.specs.declared.datum.Form.{Form, roll-Form}
use Rattle.ls_reader.specs.declared.datum.Form.TheOpen.{Form-F}
use Rattle.ls_deftype.specs.declared.lambda.OptionalParam.{OptionalParam}
use Rattle.ls_deftype.specs.LambdaLists.{all_names}
use Rattle.ls_deftype.specs.Names.{place_of}
use Rattle.ls_deftype.specs.Templates.{Definition}

abbrev pub datum : Span → Form-F Form Datum → Datum
datum at form = record { span = at; form = roll-Form form }

-- the list of these data, which is NIL where there are none (2.4.1)
abbrev pub listed : Span → List Datum → Datum
listed at [] = datum at (Form-F.Symbol nil_symbol)
listed at (d ∷ ds) = datum at (Form-F.List (d ∷ ds))

-- Whether a template takes so many arguments: at least as many as required parameters, and without a rest parameter
-- no more behind them than optional ones.
abbrev pub takes : Definition → ℕ → Bool
takes t count =
    nat_le (length t.required) count && (is_some t.rest || nat_le (count - length t.required) (length t.optional))

-- a use of a template: its place, and its arguments
pub record Use : Type 0 where
  pub template : Definition
  pub place : Span
  pub args : List Datum

-- the arguments behind those of the other parameters
abbrev pub rest_args : Use → List Datum
rest_args u = drop (length u.template.optional) (drop (length u.template.required) u.args)

-- what optional parameters stand for: arguments, and defaults where these are used up
abbrev pub optional_values : List Datum → List OptionalParam → List Datum
optional_values args [] = []
optional_values [] (p ∷ ps) = p.value ∷ optional_values [] ps
optional_values (a ∷ args) (p ∷ ps) = a ∷ optional_values args ps

-- what the parameters stand for, in order: arguments, defaults, and the list of the other arguments
abbrev pub values : Use → List Datum
values u =
    take (length u.template.required) u.args
    ++ (optional_values (drop (length u.template.required) u.args) u.template.optional
    ++ map (λ r. listed u.place (rest_args u)) (option_to_list u.template.rest))

abbrev pub value_at : Use → Option ℕ → Option Datum
value_at u None = None
value_at u (Some i) = slice_get (values u) i

abbrev pub names : Definition → List Symbol
names t = all_names t.required t.optional t.rest

-- what a parameter stands for, if the symbol is that of one
abbrev pub value_of : Use → Option Symbol → Option Datum
value_of u None = None
value_of u (Some s) = value_at u (place_of (names u.template) s)
