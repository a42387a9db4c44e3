-- Numbers in specifiers: bounds and sizes (12.1.4.3, INTEGER, RATIONAL, MOD, SIGNED-BYTE, UNSIGNED-BYTE).
use Rattle.std.specs.Prelude.{ℕ, ℤ, pos, ◌≡◌, refl, ◌<◌, ◌≤◌, nat_le, nat_lt, int_lt, Bool, true, false, ◌&&◌, ◌==◌, if◌then◌else◌, List, [], ◌∷◌, Option, Some, None, Result, Ok, Err, unsigned_abs}
use Rattle.std.proofs.Math.Dec.{lit<}
use Rattle.std.proofs.lemmas.Bool.{ltb-true}
use Rattle.ls_object.specs.declared.rat.Rat.{Rat}
use Rattle.ls_object.specs.Limits.{numerator_limit}
use Rattle.ls_object.specs.Integers.{integer}
use Rattle.ls_reader.specs.declared.datum.Span.{Span}
use Rattle.ls_reader.specs.declared.datum.Datum.{Datum}
use Rattle.ls_reader.specs.declared.datum.Form.{Form, out-Form}
use Rattle.ls_reader.specs.declared.datum.Form.TheOpen.{Form-F}
use Rattle.ls_reader.specs.declared.datum.Literal.{Literal}
use Rattle.ls_reader.specs.declared.datum.Literal.TheVariants as literal
use Rattle.ls_tables.specs.declared.name.Builtin.{Builtin}
use Rattle.ls_tables.specs.declared.name.Builtin.TheVariants as name
use Rattle.ls_tables.specs.Builtins.{builtin_of}
use Rattle.ls_spec.specs.declared.spec.RangeKind.{RangeKind}
use Rattle.ls_spec.specs.declared.spec.Bound.{Bound}
use Rattle.ls_spec.specs.declared.spec.Bound.TheVariants.{Free, Incl, Excl}
use Rattle.ls_spec.specs.Membership.{is_of_range_kind}
use Rattle.ls_grammar.specs.declared.refusal.RefusalKind.{RefusalKind}
use Rattle.ls_grammar.specs.declared.refusal.RefusalKind.TheVariants as kind
use Rattle.ls_grammar.specs.declared.refusal.Refusal.{Refusal}

abbrev pub refusal : RefusalKind → Span → Refusal
refusal k at = record { kind = k; place = at }

abbrev pub bad_bound : Span → Refusal
bad_bound at = refusal kind.BadBound at

abbrev pub too_wide : Span → Refusal
too_wide at = refusal kind.NumberTooWide at

-- the number that is written, or none where it is wide
abbrev pub written : Literal → Option Rat
written (literal.Value small) = Some small.value
written literal.Wide = None

abbrev pub whole_if : (z : ℤ) (fits : Bool) → nat_lt (unsigned_abs z) numerator_limit ≡ fits → Rat
whole_if z true e = integer z (ltb-true (unsigned_abs z) numerator_limit e)
whole_if z false e = integer (pos 0) (lit< tt)

-- the rational z/1; 0 in place of a number that passes the limits of rationals
abbrev pub whole : ℤ → Rat
whole z = whole_if z (nat_lt (unsigned_abs z) numerator_limit) refl

-- the symbol `*`
abbrev pub is_star_name : Option Builtin → Bool
is_star_name (Some name.Star) = true
is_star_name _ = false

abbrev pub is_star_form : Form-F Form Datum → Bool
is_star_form (Form-F.Symbol s) = is_star_name (builtin_of s)
is_star_form _ = false

abbrev pub is_star : Datum → Bool
is_star d = is_star_form (out-Form d.form)

-- ---- bounds

-- A number at a place, as that of the bound whose place is `bound`. A wide number is too wide, of whatever kind it is.
abbrev pub bound_number : RangeKind → Span → Span → Option Rat → Result Rat Refusal
bound_number k bound at None = Err (too_wide at)
bound_number k bound at (Some r) = if is_of_range_kind k r.den then Ok r else Err (bad_bound bound)

abbrev pub inclusive : Result Rat Refusal → Result Bound Refusal
inclusive (Ok r) = Ok (Incl r)
inclusive (Err x) = Err x

abbrev pub exclusive : Result Rat Refusal → Result Bound Refusal
exclusive (Ok r) = Ok (Excl r)
exclusive (Err x) = Err x

abbrev pub exclusive_form : RangeKind → Span → Span → Form-F Form Datum → Result Bound Refusal
exclusive_form k bound at (Form-F.Number n) = exclusive (bound_number k bound at (written n))
exclusive_form k bound at _ = Err (bad_bound bound)

-- a bound that doesn't belong is a list of one number
abbrev pub exclusive_bound : RangeKind → Span → List Datum → Result Bound Refusal
exclusive_bound k bound (d ∷ []) = exclusive_form k bound d.span (out-Form d.form)
exclusive_bound k bound _ = Err (bad_bound bound)

abbrev pub star_bound : Span → Option Builtin → Result Bound Refusal
star_bound bound b = if is_star_name b then Ok Free else Err (bad_bound bound)

abbrev pub bound_form : RangeKind → Span → Form-F Form Datum → Result Bound Refusal
bound_form k bound (Form-F.Symbol s) = star_bound bound (builtin_of s)
bound_form k bound (Form-F.Number n) = inclusive (bound_number k bound bound (written n))
bound_form k bound (Form-F.List items) = exclusive_bound k bound items
bound_form k bound _ = Err (bad_bound bound)

-- a bound of INTEGER or RATIONAL: `*`, a number of the kind, or a list of one such number
abbrev pub bound_of : RangeKind → Datum → Result Bound Refusal
bound_of k d = bound_form k d.span (out-Form d.form)

-- ---- sizes

-- an integer of at least 1
abbrev pub is_positive : Rat → Bool
is_positive r = (r.den == 1) && int_lt (pos 0) r.num

abbrev pub size_number : Span → Option Rat → Result ℕ Refusal
size_number at None = Err (too_wide at)
size_number at (Some r) = if is_positive r then Ok (unsigned_abs r.num) else Err (bad_bound at)

abbrev pub size_form : Span → Form-F Form Datum → Result ℕ Refusal
size_form at (Form-F.Number n) = size_number at (written n)
size_form at _ = Err (bad_bound at)

-- a size: an integer of at least 1
abbrev pub size_of : Datum → Result ℕ Refusal
size_of d = size_form d.span (out-Form d.form)

abbrev pub within : ℕ → Span → Result ℕ Refusal → Result ℕ Refusal
within limit at (Err x) = Err x
within limit at (Ok n) = if nat_le n limit then Ok n else Err (too_wide at)

-- a size of at most so many bits
abbrev pub bits_of : ℕ → Datum → Result ℕ Refusal
bits_of limit d = within limit d.span (size_of d)

-- from 1 to the limit
abbrev pub IsSizeWithin : ℕ → ℕ → Type 0
IsSizeWithin limit n = (0 < n) × (n ≤ limit)
