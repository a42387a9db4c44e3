-- Bounds and sizes are within the limits.
use Rattle.std.proofs.Common.{ℕ, ◌≤◌, ◌^◌, List, [], ◌∷◌, Option, Some, None, Result, Ok, Err, arith}
use Rattle.std.specs.Prelude.{nat_le, unsigned_abs, IfOk, IfSome}
use Rattle.std.proofs.lemmas.Bool.{cond_both}
use Rattle.ls_object.specs.declared.rat.Rat.{Rat}
use Rattle.ls_reader.specs.declared.datum.Span.{Span}
use Rattle.ls_reader.specs.declared.datum.Datum.{Datum}
use Rattle.ls_reader.specs.declared.datum.Form.{Form, out-Form}
use Rattle.ls_reader.specs.declared.datum.Form.TheOpen.{Form-F}
use Rattle.ls_tables.specs.declared.name.Builtin.{Builtin}
use Rattle.ls_tables.specs.Builtins.{builtin_of}
use Rattle.ls_spec.specs.declared.spec.RangeKind.{RangeKind}
use Rattle.ls_spec.specs.declared.spec.Bound.TheVariants.{Free}
use Rattle.ls_spec.specs.Membership.{is_of_range_kind}
use Rattle.ls_spec.specs.Fits.{IsSmall, IsSmallBound}
use Rattle.ls_grammar.specs.declared.refusal.Refusal.{Refusal}
use Rattle.ls_grammar.specs.declared.refusal.RefusalKind.TheVariants as kind
use Rattle.ls_grammar.specs.Numbers.{refusal, written, is_star_name, bad_bound, bound_number, inclusive, exclusive, exclusive_form, exclusive_bound, star_bound, bound_form, bound_of, is_positive, size_number, size_form, size_of, within, bits_of}
use Rattle.ls_grammar.proofs.NumberLemmas.{small_written}

-- ---- bounds

of_bound_number : (k : RangeKind) (bound at : Span) (o : Option Rat) → IfSome o IsSmall → IfOk (bound_number k bound at o) IsSmall
of_bound_number k bound at None h = tt
of_bound_number k bound at (Some r) h = cond_both (is_of_range_kind k r.den) (Ok r) (Err (bad_bound bound)) (λ x. IfOk x IsSmall) (λ e. h) (λ e. tt)

of_inclusive : (x : Result Rat Refusal) → IfOk x IsSmall → IfOk (inclusive x) IsSmallBound
of_inclusive (Ok r) h = h
of_inclusive (Err x) h = tt

of_exclusive : (x : Result Rat Refusal) → IfOk x IsSmall → IfOk (exclusive x) IsSmallBound
of_exclusive (Ok r) h = h
of_exclusive (Err x) h = tt

of_exclusive_form : (k : RangeKind) (bound at : Span) (f : Form-F Form Datum) → IfOk (exclusive_form k bound at f) IsSmallBound
of_exclusive_form k bound at (Form-F.Number n) = of_exclusive (bound_number k bound at (written n)) (of_bound_number k bound at (written n) (small_written n))
of_exclusive_form k bound at _ = tt

of_exclusive_bound : (k : RangeKind) (bound : Span) (ds : List Datum) → IfOk (exclusive_bound k bound ds) IsSmallBound
of_exclusive_bound k bound [] = tt
of_exclusive_bound k bound (d ∷ []) = of_exclusive_form k bound d.span (out-Form d.form)
of_exclusive_bound k bound (d ∷ e ∷ ds) = tt

of_star_bound : (bound : Span) (b : Option Builtin) → IfOk (star_bound bound b) IsSmallBound
of_star_bound bound b = cond_both (is_star_name b) (Ok Free) (Err (bad_bound bound)) (λ x. IfOk x IsSmallBound) (λ e. tt) (λ e. tt)

of_bound_form : (k : RangeKind) (bound : Span) (f : Form-F Form Datum) → IfOk (bound_form k bound f) IsSmallBound
of_bound_form k bound (Form-F.Symbol s) = of_star_bound bound (builtin_of s)
of_bound_form k bound (Form-F.Number n) = of_inclusive (bound_number k bound bound (written n)) (of_bound_number k bound bound (written n) (small_written n))
of_bound_form k bound (Form-F.List items) = of_exclusive_bound k bound items
of_bound_form k bound _ = tt

pub of_bound : (k : RangeKind) (d : Datum) → IfOk (bound_of k d) IsSmallBound
of_bound k d = of_bound_form k d.span (out-Form d.form)

-- ---- sizes

abbrev pub IsAtMost : ℕ → ℕ → Type 0
IsAtMost limit n = n ≤ limit

of_size_number : (at : Span) (o : Option Rat) → IfSome o IsSmall → IfOk (size_number at o) (IsAtMost (2 ^ 64))
of_size_number at None h = tt
of_size_number at (Some r) h = cond_both (is_positive r) (Ok (unsigned_abs r.num)) (Err (bad_bound at)) (λ x. IfOk x (IsAtMost (2 ^ 64))) (λ e. h.0) (λ e. tt)

of_size_form : (at : Span) (f : Form-F Form Datum) → IfOk (size_form at f) (IsAtMost (2 ^ 64))
of_size_form at (Form-F.Number n) = of_size_number at (written n) (small_written n)
of_size_form at _ = tt

pub of_size : (d : Datum) → IfOk (size_of d) (IsAtMost (2 ^ 64))
of_size d = of_size_form d.span (out-Form d.form)

of_within : (limit : ℕ) (at : Span) (x : Result ℕ Refusal) → IfOk (within limit at x) (IsAtMost limit)
of_within limit at (Err x) = tt
of_within limit at (Ok n) = cond_both (nat_le n limit) (Ok n) (Err (refusal kind.NumberTooWide at)) (λ x. IfOk x (IsAtMost limit)) (λ e. grind (arith, e)) (λ e. tt)

pub of_bits : (limit : ℕ) (d : Datum) → IfOk (bits_of limit d) (IsAtMost limit)
of_bits limit d = of_within limit d.span (size_of d)
