-- Lambda lists of DEFTYPE (3.4.8), without keys and auxiliary variables.
use Rattle.std.specs.Prelude.{ℕ, Bool, true, not, ◌&&◌, ◌||◌, List, [], ◌∷◌, ◌++◌, codes, take, drop, map, Option, Some, None, option_map, option_to_list, if◌then◌else◌}
use Rattle.std.specs.List.{list_any, position_or_len}
use Rattle.ls_object.specs.declared.symbol.Symbol.{Symbol}
use Rattle.ls_object.specs.Symbols.{common_lisp_symbol, same_symbol}
use Rattle.ls_reader.specs.declared.datum.Span.{Span}
use Rattle.ls_reader.specs.declared.datum.Datum.{Datum}
use Rattle.ls_reader.specs.declared.datum.Form.{Form, out-Form, roll-Form}
use Rattle.ls_reader.specs.declared.datum.Form.TheOpen.{Form-F}
use Rattle.ls_deftype.specs.declared.lambda.OptionalParam.{OptionalParam}
use Rattle.ls_deftype.specs.declared.lambda.Parameters.{Parameters}
use Rattle.ls_deftype.specs.Symbols.{is_lisp, is_constant, is_lambda_keyword, symbol_of, is_symbol}
use Rattle.ls_deftype.specs.Quoting.{quoted, items_of}

abbrev pub named : Option Symbol → Option Symbol
named None = None
named (Some s) = if is_lambda_keyword s then None else Some s

-- the parameter that a datum names: a symbol that is no lambda keyword
abbrev pub name_of : Datum → Option Symbol
name_of d = named (symbol_of d)

-- ---- parts of a lambda list

-- where the first lambda keyword stands, or the end
abbrev pub keyword_at : List Datum → ℕ
keyword_at ds = position_or_len (is_symbol is_lambda_keyword) ds

abbrev pub before_keyword : List Datum → List Datum
before_keyword ds = take (keyword_at ds) ds

abbrev pub from_keyword : List Datum → List Datum
from_keyword ds = drop (keyword_at ds) ds

abbrev pub and_one : {X : Type 0} → Option X → Option (List X) → Option (List X)
and_one (Some x) (Some xs) = Some (x ∷ xs)
and_one _ _ = None

-- what each of the data says, if each says something
abbrev pub each_of : {X : Type 0} → (Datum → Option X) → List Datum → Option (List X)
each_of f [] = Some []
each_of f (d ∷ ds) = and_one (f d) (each_of f ds)

-- ---- required parameters

-- each is the name of a parameter
abbrev pub names_of : List Datum → Option (List Symbol)
names_of ds = each_of name_of ds

-- ---- optional parameters

-- the symbol `*`, where no default is written
abbrev pub star : Span → Datum
star at = record { span = at; form = roll-Form (Form-F.Symbol (common_lisp_symbol (codes "*"))) }

abbrev pub own_value : Datum → Form-F Form Datum → Option Datum
own_value d (Form-F.Number n) = Some d
own_value d (Form-F.Symbol s) = if is_constant s then Some d else None
own_value d _ = None

abbrev pub or_own : Datum → Option Datum → Option Datum
or_own d (Some x) = Some x
or_own d None = own_value d (out-Form d.form)

-- the value of a default: what is quoted, a number, T, NIL or a keyword
abbrev pub default_value : Datum → Option Datum
default_value d = or_own d (quoted d)

abbrev pub parameter : Option Symbol → Option Datum → Option OptionalParam
parameter (Some s) (Some d) = Some (record { name = s; value = d })
parameter _ _ = None

abbrev pub listed_item : Span → List Datum → Option OptionalParam
listed_item at (n ∷ []) = parameter (name_of n) (Some (star at))
listed_item at (n ∷ d ∷ []) = parameter (name_of n) (default_value d)
listed_item at _ = None

abbrev pub item_form : Datum → Form-F Form Datum → Option OptionalParam
item_form d (Form-F.List items) = listed_item d.span items
item_form d _ = parameter (name_of d) (Some (star d.span))

-- an optional parameter: `name`, `(name)` or `(name default)`
abbrev pub item_of : Datum → Option OptionalParam
item_of d = item_form d (out-Form d.form)

-- each is an optional parameter
abbrev pub optionals_of : List Datum → Option (List OptionalParam)
optionals_of ds = each_of item_of ds

-- ---- the rest parameter

-- nothing, or `&rest` or `&body` and one name
abbrev pub rest_of : List Datum → Option (Option Symbol)
rest_of [] = Some None
rest_of (k ∷ d ∷ []) =
    if is_symbol (λ s. is_lisp (codes "&REST") s || is_lisp (codes "&BODY") s) k then option_map Some (name_of d)
    else None
rest_of _ = None

-- ---- whole lambda lists

-- the names of the parameters, in order
abbrev pub all_names : List Symbol → List OptionalParam → Option Symbol → List Symbol
all_names required optional rest = required ++ (map (λ p. p.name) optional ++ option_to_list rest)

abbrev pub none_repeats : List Symbol → List Symbol → Bool
none_repeats earlier [] = true
none_repeats earlier (s ∷ ss) = not (list_any (same_symbol s) earlier) && none_repeats (earlier ++ s ∷ []) ss

-- no symbol stands twice
abbrev pub are_distinct : List Symbol → Bool
are_distinct ss = none_repeats [] ss

abbrev pub of_parts : Option (List Symbol) → Option (List OptionalParam) → Option (Option Symbol) → Option Parameters
of_parts (Some r) (Some o) (Some x) = Some (record { required = r; optional = o; rest = x })
of_parts _ _ _ = None

-- the parameters behind the required ones
abbrev pub behind_required : Option (List Symbol) → List Datum → Option Parameters
behind_required names [] = of_parts names (Some []) (Some None)
behind_required names (k ∷ ds) =
    if is_symbol (is_lisp (codes "&OPTIONAL")) k
    then of_parts names (optionals_of (before_keyword ds)) (rest_of (from_keyword ds))
    else of_parts names (Some []) (rest_of (k ∷ ds))

-- the parameters that the items of a lambda list say, whether their names differ or not
abbrev pub written : List Datum → Option Parameters
written ds = behind_required (names_of (before_keyword ds)) (from_keyword ds)

abbrev pub with_distinct : Option Parameters → Option Parameters
with_distinct None = None
with_distinct (Some p) = if are_distinct (all_names p.required p.optional p.rest) then Some p else None

abbrev pub written_in : Option (List Datum) → Option Parameters
written_in None = None
written_in (Some ds) = written ds

-- the parameters that a lambda list says, if it is one
abbrev pub parameters_of : Datum → Option Parameters
parameters_of d = with_distinct (written_in (items_of d))
