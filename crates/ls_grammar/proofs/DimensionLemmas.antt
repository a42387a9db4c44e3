-- Dimensions and ranks are within the limits.
use Rattle.std.proofs.Common.{◌≡◌, ℕ, suc, ◌+◌, ◌<◌, ◌≤◌, List, [], ◌∷◌, length, replicate, zero, Option, Some, None, Result, Ok, Err, refl, ap, subst, sym, arith, lit≤}
use Rattle.std.specs.Prelude.{nat_le, nat_lt, unsigned_abs, IfOk}
use Rattle.std.specs.List.{AllByRecursion}
use Rattle.std.proofs.lemmas.Bool.{cond_both, ltb-true}
use Rattle.std.proofs.lemmas.List.{length-replicate}
use Rattle.ls_object.specs.declared.rat.Rat.{Rat}
use Rattle.ls_reader.specs.declared.datum.Span.{Span}
use Rattle.ls_reader.specs.declared.datum.Datum.{Datum}
use Rattle.ls_reader.specs.declared.datum.Form.{Form, out-Form}
use Rattle.ls_reader.specs.declared.datum.Form.TheOpen.{Form-F}
use Rattle.ls_tables.specs.declared.name.Builtin.{Builtin}
use Rattle.ls_tables.specs.declared.name.Builtin.TheVariants as name
use Rattle.ls_tables.specs.Builtins.{builtin_of}
use Rattle.ls_spec.specs.Limits.{largest_rank, dimension_limit}
use Rattle.ls_spec.specs.Fits.{IsSmallPlace, AreSmallDimensions}
use Rattle.ls_grammar.specs.declared.refusal.Refusal.{Refusal}
use Rattle.ls_grammar.specs.Numbers.{too_wide, written, is_star_name}
use Rattle.ls_grammar.specs.Dimensions.{bad_dimension, is_natural, below_limit, natural_number, asked, star_place, place_form, place_of, in_front, places_of, placed, list_dimensions, of_rank, symbol_dimensions, dimensions_form, dimensions_of}

abbrev IsBelow : ℕ → ℕ → Type 0
IsBelow limit n = n < limit

small_below : (limit : ℕ) (at : Span) (n : ℕ) → IfOk (below_limit limit at n) (IsBelow limit)
small_below limit at n = cond_both (nat_lt n limit) (Ok n) (Err (too_wide at)) (λ x. IfOk x (IsBelow limit)) (λ e. ltb-true n limit e) (λ e. tt)

small_number : (limit : ℕ) (at : Span) (o : Option Rat) → IfOk (natural_number limit at o) (IsBelow limit)
small_number limit at None = tt
small_number limit at (Some r) =
    let n = unsigned_abs r.num in
    cond_both (is_natural r) (below_limit limit at n) (Err (bad_dimension at)) (λ x. IfOk x (IsBelow limit)) (λ e. small_below limit at n) (λ e. tt)

-- ---- one dimension

small_asked : (x : Result ℕ Refusal) → IfOk x (IsBelow dimension_limit) → IfOk (asked x) IsSmallPlace
small_asked (Ok n) h = h
small_asked (Err x) h = tt

small_star : (at : Span) (b : Option Builtin) → IfOk (star_place at b) IsSmallPlace
small_star at b = cond_both (is_star_name b) (Ok None) (Err (bad_dimension at)) (λ x. IfOk x IsSmallPlace) (λ e. tt) (λ e. tt)

small_place_form : (at : Span) (f : Form-F Form Datum) → IfOk (place_form at f) IsSmallPlace
small_place_form at (Form-F.Symbol s) = small_star at (builtin_of s)
small_place_form at (Form-F.Number n) = small_asked (natural_number dimension_limit at (written n)) (small_number dimension_limit at (written n))
small_place_form at _ = tt

pub small_place : (d : Datum) → IfOk (place_of d) IsSmallPlace
small_place d = small_place_form d.span (out-Form d.form)

-- ---- all dimensions

-- so many dimensions, each within the limit
abbrev AreSmall : ℕ → List (Option ℕ) → Type 0
AreSmall n ps = (length ps ≡ n) × AllByRecursion IsSmallPlace ps

small_front : (p : Result (Option ℕ) Refusal) (ps : Result (List (Option ℕ)) Refusal) (n : ℕ) → IfOk p IsSmallPlace → IfOk ps (AreSmall n) → IfOk (in_front p ps) (AreSmall (suc n))
small_front (Err x) ps n h rest = tt
small_front (Ok p) (Err x) n h rest = tt
small_front (Ok p) (Ok ps) n h rest = (ap (λ (k : ℕ). suc k) rest.0, (h, rest.1))

small_places : (ds : List Datum) → IfOk (places_of ds) (AreSmall (length ds))
small_places [] = (refl, tt)
small_places (d ∷ ds) = small_front (place_of d) (places_of ds) (length ds) (small_place d) (small_places ds)

small_placed : (n : ℕ) (r : Result (List (Option ℕ)) Refusal) → n ≤ largest_rank → IfOk r (AreSmall n) → IfOk (placed r) AreSmallDimensions
small_placed n (Ok ps) few h = (subst (λ (k : ℕ). k ≤ largest_rank) (sym h.0) few, h.1)
small_placed n (Err x) few h = tt

small_list : (at : Span) (ds : List Datum) → IfOk (list_dimensions at ds) AreSmallDimensions
small_list at ds =
    cond_both (nat_le (length ds) largest_rank) (placed (places_of ds)) (Err (too_wide at)) (λ x. IfOk x AreSmallDimensions)
    (λ e. small_placed (length ds) (places_of ds) (grind (arith, e)) (small_places ds)) (λ e. tt)

small_free : (n : ℕ) → AllByRecursion IsSmallPlace (replicate n None)
small_free zero = tt
small_free (suc n) = (tt, small_free n)

small_rank : (r : Result ℕ Refusal) → IfOk r (IsBelow (largest_rank + 1)) → IfOk (of_rank r) AreSmallDimensions
small_rank (Ok n) h =
    let few : n ≤ largest_rank = omega (arith, h) in
    (subst (λ (k : ℕ). k ≤ largest_rank) (sym (length-replicate n None)) few, small_free n)
small_rank (Err x) h = tt

small_symbol : (at : Span) (b : Option Builtin) → IfOk (symbol_dimensions at b) AreSmallDimensions
small_symbol at (Some name.Star) = tt
small_symbol at (Some name.Nil) = (lit≤ tt, tt)
small_symbol at _ = tt

small_form : (at : Span) (f : Form-F Form Datum) → IfOk (dimensions_form at f) AreSmallDimensions
small_form at (Form-F.Symbol s) = small_symbol at (builtin_of s)
small_form at (Form-F.Number n) = small_rank (natural_number (largest_rank + 1) at (written n)) (small_number (largest_rank + 1) at (written n))
small_form at (Form-F.List items) = small_list at items
small_form at _ = tt

pub small_dimensions : (d : Datum) → IfOk (dimensions_of d) AreSmallDimensions
small_dimensions d = small_form d.span (out-Form d.form)
