-- The dimensions of arrays in specifiers: a rank, a list of dimensions, or a length (15.2, entries of ARRAY, VECTOR
-- and STRING).
use Rattle.std.specs.Prelude.{ℕ, pos, ◌+◌, nat_le, nat_lt, int_le, Bool, ◌&&◌, ◌==◌, if◌then◌else◌, List, [], ◌∷◌, length, replicate, Option, Some, None, Result, Ok, Err, unsigned_abs}
use Rattle.ls_object.specs.declared.rat.Rat.{Rat}
use Rattle.ls_reader.specs.declared.datum.Span.{Span}
use Rattle.ls_reader.specs.declared.datum.Datum.{Datum}
use Rattle.ls_reader.specs.declared.datum.Form.{Form, out-Form}
use Rattle.ls_reader.specs.declared.datum.Form.TheOpen.{Form-F}
use Rattle.ls_tables.specs.declared.name.Builtin.{Builtin}
use Rattle.ls_tables.specs.declared.name.Builtin.TheVariants as name
use Rattle.ls_tables.specs.Builtins.{builtin_of}
use Rattle.ls_spec.specs.declared.spec.DimPattern.{DimPattern}
use Rattle.ls_spec.specs.declared.spec.DimPattern.TheVariants as dimensions
use Rattle.ls_spec.specs.Limits.{largest_rank, dimension_limit}
use Rattle.ls_grammar.specs.declared.refusal.RefusalKind.TheVariants as kind
use Rattle.ls_grammar.specs.declared.refusal.Refusal.{Refusal}
use Rattle.ls_grammar.specs.Numbers.{refusal, too_wide, written, is_star_name}

-- what is no rank, no dimension and no list of dimensions
abbrev pub bad_dimension : Span → Refusal
bad_dimension at = refusal kind.BadArgument at

-- ---- ranks and dimensions

-- an integer of at least 0
abbrev pub is_natural : Rat → Bool
is_natural r = (r.den == 1) && int_le (pos 0) r.num

abbrev pub below_limit : ℕ → Span → ℕ → Result ℕ Refusal
below_limit limit at n = if nat_lt n limit then Ok n else Err (too_wide at)

-- An integer of at least 0 that stays below the limit. A wide number is too wide, of whatever kind and sign it is.
abbrev pub natural_number : ℕ → Span → Option Rat → Result ℕ Refusal
natural_number limit at None = Err (too_wide at)
natural_number limit at (Some r) =
    if is_natural r then below_limit limit at (unsigned_abs r.num) else Err (bad_dimension at)

-- ---- one dimension

abbrev pub asked : Result ℕ Refusal → Result (Option ℕ) Refusal
asked (Ok n) = Ok (Some n)
asked (Err x) = Err x

abbrev pub star_place : Span → Option Builtin → Result (Option ℕ) Refusal
star_place at b = if is_star_name b then Ok None else Err (bad_dimension at)

abbrev pub place_form : Span → Form-F Form Datum → Result (Option ℕ) Refusal
place_form at (Form-F.Symbol s) = star_place at (builtin_of s)
place_form at (Form-F.Number n) = asked (natural_number dimension_limit at (written n))
place_form at _ = Err (bad_dimension at)

-- one dimension of a list, or a length: `*`, which asks for nothing, or an integer of at least 0
abbrev pub place_of : Datum → Result (Option ℕ) Refusal
place_of d = place_form d.span (out-Form d.form)

-- ---- all dimensions

abbrev pub in_front : Result (Option ℕ) Refusal → Result (List (Option ℕ)) Refusal → Result (List (Option ℕ)) Refusal
in_front (Err x) rest = Err x
in_front (Ok p) (Err x) = Err x
in_front (Ok p) (Ok ps) = Ok (p ∷ ps)

-- each dimension of a list, or the first thing that is wrong from left to right
abbrev pub places_of : List Datum → Result (List (Option ℕ)) Refusal
places_of [] = Ok []
places_of (d ∷ ds) = in_front (place_of d) (places_of ds)

abbrev pub placed : Result (List (Option ℕ)) Refusal → Result DimPattern Refusal
placed (Ok ps) = Ok (dimensions.Places ps)
placed (Err x) = Err x

-- a list of dimensions is looked at by its length first
abbrev pub list_dimensions : Span → List Datum → Result DimPattern Refusal
list_dimensions at ds = if nat_le (length ds) largest_rank then placed (places_of ds) else Err (too_wide at)

-- a rank asks for so many dimensions, each of any size
abbrev pub of_rank : Result ℕ Refusal → Result DimPattern Refusal
of_rank (Ok n) = Ok (dimensions.Places (replicate n None))
of_rank (Err x) = Err x

-- `*` asks for nothing; NIL is the empty list, and asks for no dimensions
abbrev pub symbol_dimensions : Span → Option Builtin → Result DimPattern Refusal
symbol_dimensions at (Some name.Star) = Ok dimensions.Any
symbol_dimensions at (Some name.Nil) = Ok (dimensions.Places [])
symbol_dimensions at _ = Err (bad_dimension at)

abbrev pub dimensions_form : Span → Form-F Form Datum → Result DimPattern Refusal
dimensions_form at (Form-F.Symbol s) = symbol_dimensions at (builtin_of s)
dimensions_form at (Form-F.Number n) = of_rank (natural_number (largest_rank + 1) at (written n))
dimensions_form at (Form-F.List items) = list_dimensions at items
dimensions_form at _ = Err (bad_dimension at)

-- the dimensions of ARRAY and SIMPLE-ARRAY: `*`, a rank, or a list of dimensions
abbrev pub dimensions_of : Datum → Result DimPattern Refusal
dimensions_of d = dimensions_form d.span (out-Form d.form)

-- one dimension, as that of a vector
abbrev pub one_place : Option ℕ → DimPattern
one_place p = dimensions.Places (p ∷ [])
