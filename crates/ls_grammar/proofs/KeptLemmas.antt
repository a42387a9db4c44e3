-- A property of specifiers that predicates, ranges, built-in names, arrays, strings, objects, AND, OR, NOT and CONS keep
-- holds of all that data denote.
use Rattle.std.proofs.Common.{ℕ, ℤ, pos, zero, suc, ◌-◌, ◌-ℤ◌, ◌≤◌, ◌^◌, List, [], ◌∷◌, length, Result, Ok, Err, arith, lit≤}
use Rattle.std.proofs.Common.{◌≡◌, refl, subst, sym}
use Rattle.std.specs.Prelude.{nat_le, slice_get, neg_ℤ, unsigned_abs, if◌then◌else◌, Bool, true, false, Option, Some, None, IfOk, IfSome}
use Rattle.std.specs.List.{AllByRecursion, list_all}
use Rattle.std.proofs.lemmas.Bool.{cond_both}
use Rattle.std.proofs.lemmas.Int.{ints}
use Rattle.ls_object.specs.declared.symbol.Symbol.{Symbol}
use Rattle.ls_object.specs.declared.rat.Rat.{Rat}
use Rattle.ls_reader.specs.declared.datum.Span.{Span}
use Rattle.ls_reader.specs.declared.datum.Datum.{Datum}
use Rattle.ls_reader.specs.declared.datum.Form.{Form, out-Form}
use Rattle.ls_reader.specs.declared.datum.Form.TheOpen.{Form-F}
use Rattle.ls_tables.specs.declared.name.Builtin.{Builtin}
use Rattle.ls_tables.specs.declared.name.Builtin.TheVariants as name
use Rattle.ls_tables.specs.Builtins.{builtin_of}
use Rattle.ls_spec.specs.declared.spec.Point.{Point}
use Rattle.ls_spec.specs.declared.spec.Point.TheVariants as point
use Rattle.ls_spec.specs.declared.spec.RangeKind.{RangeKind}
use Rattle.ls_spec.specs.declared.spec.RangeKind.TheVariants.{Integer, Rational}
use Rattle.ls_spec.specs.declared.spec.Bound.{Bound}
use Rattle.ls_spec.specs.declared.spec.Bound.TheVariants.{Free, Incl}
use Rattle.ls_spec.specs.declared.spec.DimPattern.{DimPattern}
use Rattle.ls_spec.specs.declared.spec.DimPattern.TheVariants as dimensions
use Rattle.ls_spec.specs.Specifier.{Specifier, all_objects, not_of, eql_to, range_of, structure_under, array_any, array_of, string_of, cons_of, satisfies}
use Rattle.ls_spec.specs.Builtins.{expansion}
use Rattle.ls_spec.specs.Fits.{IsSmall, IsSmallBound, IsSmallPoint, IsSmallPlace, AreSmallDimensions}
use Rattle.ls_deftype.specs.Templates.{Definition}
use Rattle.ls_deftype.specs.Arguments.{takes}
use Rattle.ls_deftype.specs.Substitution.{substituted}
use Rattle.ls_env.specs.declared.status.NameStatus.{NameStatus}
use Rattle.ls_env.specs.declared.status.NameStatus.TheVariants as status
use Rattle.ls_env.specs.Environments.{Environment}
use Rattle.ls_env.specs.Naming.{quote_symbol, status_of}
use Rattle.ls_grammar.specs.declared.refusal.Refusal.{Refusal}
use Rattle.ls_grammar.specs.declared.refusal.RefusalKind.{RefusalKind}
use Rattle.ls_grammar.specs.declared.refusal.RefusalKind.TheVariants as kind
use Rattle.ls_grammar.specs.Numbers.{refusal, written, whole, is_star, bound_of, size_of, bits_of}
use Rattle.ls_grammar.specs.Levels.{Level, refused, known, object, members, all_of, some_of, none_of, pair_of, array_over, expanded, bad_argument}
use Rattle.ls_grammar.specs.Levels.{range, range_level, from_to, below, signed_bytes, unsigned_bytes, sized, mod_level}
use Rattle.ls_grammar.specs.Levels.{signed_level, unsigned_level, starred_level, not_level, eql_level, predicate_form, satisfies_level, part_of, cons_level}
use Rattle.ls_grammar.specs.Dimensions.{place_of, dimensions_of, one_place}
use Rattle.ls_grammar.specs.ArrayLevels.{elements, arrays, array_level, vector_with, vector_level, of_length, length_level, vectors_over}
use Rattle.ls_grammar.specs.BuiltinLevels.{built_atom, built_list}
use Rattle.ls_grammar.specs.Saying.{use_of, use_by, level_by, atom_by, own_level, atom_level, list_level, head_level, items_level, form_level, level}
use Rattle.ls_grammar.specs.Denoting.{object_form, number_point, conjunction, disjunction, Each, IsEql, SaysPart, Says, DenotesIn}
use Rattle.ls_grammar.proofs.NumberLemmas.{small_power, small_whole, small_written}
use Rattle.ls_grammar.proofs.BoundLemmas.{IsAtMost, of_bound, of_size, of_bits}
use Rattle.ls_grammar.proofs.DimensionLemmas.{small_place, small_dimensions}

-- what holds of the specifier that a level shows, if it shows one; dimensions are within the limits
abbrev pub OfKnown : (Specifier → Type 0) → Level → Type 0
OfKnown Q (known s) = Q s
OfKnown Q (array_over d simple dims) = AreSmallDimensions dims
OfKnown Q _ = Unit {0}

-- ---- one level

module _ (Q : Specifier → Type 0) (env : Environment)
    (on_structure : (s : Symbol) → status_of env s ≡ status.Structure → Q (structure_under s))
    (on_predicate : (p : Symbol) → Q (satisfies p))
    (on_range : (k : RangeKind) (lo hi : Bound) → IsSmallBound lo → IsSmallBound hi → Q (range_of k lo hi))
    (on_atom : (at : Span) (b : Builtin) → OfKnown Q (built_atom at b))
    (on_array : (simple : Bool) (dims : DimPattern) → AreSmallDimensions dims → Q (array_any simple dims))
    (on_vector : (b : Builtin) (simple : Bool) (n : Option ℕ) → IsSmallPlace n → Q (vectors_over b simple n))
    (on_string : (simple : Bool) (n : Option ℕ) → IsSmallPlace n → Q (string_of simple n)) where
  of_range : (k : RangeKind) (lo hi : Result Bound Refusal) → IfOk lo IsSmallBound → IfOk hi IsSmallBound → OfKnown Q (range k lo hi)
  of_range k (Err x) hi h l = tt
  of_range k (Ok lo) (Err x) h l = tt
  of_range k (Ok lo) (Ok hi) h l = on_range k lo hi h l

  of_range_level : (k : RangeKind) (at : Span) (args : List Datum) → OfKnown Q (range_level k at args)
  of_range_level k at [] = on_range k Free Free tt tt
  of_range_level k at (lo ∷ []) = of_range k (bound_of k lo) (Ok Free) (of_bound k lo) tt
  of_range_level k at (lo ∷ hi ∷ []) = of_range k (bound_of k lo) (bound_of k hi) (of_bound k lo) (of_bound k hi)
  of_range_level k at (lo ∷ hi ∷ d ∷ ds) = tt

  of_from_to : (lo hi : ℤ) → unsigned_abs lo ≤ 2 ^ 64 → unsigned_abs hi ≤ 2 ^ 64 → Q (from_to lo hi)
  of_from_to lo hi l h = on_range Integer (Incl (whole lo)) (Incl (whole hi)) (small_whole lo l) (small_whole hi h)

  of_below : (n : ℕ) → n ≤ 2 ^ 64 → Q (below n)
  of_below n h = of_from_to (pos 0) (pos n -ℤ pos 1) (lit≤ tt) (omega (arith, ints, h))

  of_signed : (n : ℕ) → n ≤ 65 → Q (signed_bytes n)
  of_signed n h =
      let small = small_power (n - 1) (omega (arith, h)) in
      of_from_to (neg_ℤ (pos (2 ^ (n - 1)))) (pos (2 ^ (n - 1)) -ℤ pos 1) (omega (arith, ints, small)) (omega (arith, ints, small))

  of_unsigned : (n : ℕ) → n ≤ 64 → Q (unsigned_bytes n)
  of_unsigned n h = let small = small_power n h in of_from_to (pos 0) (pos (2 ^ n) -ℤ pos 1) (lit≤ tt) (omega (arith, ints, small))

  of_sized : (integers : ℕ → Specifier) (limit : ℕ) → ((n : ℕ) → n ≤ limit → Q (integers n)) → (x : Result ℕ Refusal) → IfOk x (IsAtMost limit) → OfKnown Q (sized integers x)
  of_sized integers limit fit (Err x) h = tt
  of_sized integers limit fit (Ok n) h = fit n h

  of_mod_level : (at : Span) (args : List Datum) → OfKnown Q (mod_level at args)
  of_mod_level at [] = tt
  of_mod_level at (d ∷ []) = of_sized below (2 ^ 64) of_below (size_of d) (of_size d)
  of_mod_level at (d ∷ e ∷ ds) = tt

  of_signed_level : (at : Span) (args : List Datum) → OfKnown Q (signed_level at args)
  of_signed_level at [] = on_atom at name.SignedByte
  of_signed_level at (d ∷ []) =
      cond_both (is_star d) (known (expansion name.SignedByte)) (sized signed_bytes (bits_of 65 d)) (OfKnown Q)
      (λ e. on_atom at name.SignedByte) (λ e. of_sized signed_bytes 65 of_signed (bits_of 65 d) (of_bits 65 d))
  of_signed_level at (d ∷ e ∷ ds) = tt

  of_unsigned_level : (at : Span) (args : List Datum) → OfKnown Q (unsigned_level at args)
  of_unsigned_level at [] = on_atom at name.UnsignedByte
  of_unsigned_level at (d ∷ []) =
      cond_both (is_star d) (known (expansion name.UnsignedByte)) (sized unsigned_bytes (bits_of 64 d)) (OfKnown Q)
      (λ e. on_atom at name.UnsignedByte) (λ e. of_sized unsigned_bytes 64 of_unsigned (bits_of 64 d) (of_bits 64 d))
  of_unsigned_level at (d ∷ e ∷ ds) = tt

  of_starred_level : (otherwise : RefusalKind) (most : ℕ) (b : Builtin) (at : Span) (args : List Datum) → Q (expansion b) → OfKnown Q (starred_level otherwise most b at args)
  of_starred_level otherwise most b at args h =
      let few : Level = if nat_le (length args) most then known (expansion b) else bad_argument at in
      cond_both (list_all is_star args) few (refused (refusal otherwise at)) (OfKnown Q)
      (λ e. cond_both (nat_le (length args) most) (known (expansion b)) (bad_argument at) (OfKnown Q) (λ f. h) (λ f. tt)) (λ e. tt)

  of_not_level : (at : Span) (args : List Datum) → OfKnown Q (not_level at args)
  of_not_level at [] = tt
  of_not_level at (d ∷ []) = tt
  of_not_level at (d ∷ e ∷ ds) = tt

  of_eql_level : (at : Span) (args : List Datum) → OfKnown Q (eql_level at args)
  of_eql_level at [] = tt
  of_eql_level at (d ∷ []) = tt
  of_eql_level at (d ∷ e ∷ ds) = tt

  of_predicate : (at : Span) (f : Form-F Form Datum) → OfKnown Q (predicate_form at f)
  of_predicate at (Form-F.Symbol p) = on_predicate p
  of_predicate at _ = tt

  of_satisfies_level : (at : Span) (args : List Datum) → OfKnown Q (satisfies_level at args)
  of_satisfies_level at [] = tt
  of_satisfies_level at (d ∷ []) = of_predicate at (out-Form d.form)
  of_satisfies_level at (d ∷ e ∷ ds) = tt

  of_cons_level : (at : Span) (args : List Datum) → OfKnown Q (cons_level at args)
  of_cons_level at [] = tt
  of_cons_level at (d ∷ []) = tt
  of_cons_level at (d ∷ e ∷ []) = tt
  of_cons_level at (d ∷ e ∷ f ∷ ds) = tt

  -- ---- arrays and strings

  of_elements : (e : Option Datum) (simple : Bool) (dims : DimPattern) → AreSmallDimensions dims → OfKnown Q (elements e simple dims)
  of_elements None simple dims h = on_array simple dims h
  of_elements (Some d) simple dims h = h

  of_arrays : (e : Option Datum) (simple : Bool) (dims : Result DimPattern Refusal) → IfOk dims AreSmallDimensions → OfKnown Q (arrays e simple dims)
  of_arrays e simple (Err x) h = tt
  of_arrays e simple (Ok dims) h = of_elements e simple dims h

  of_array_level : (simple : Bool) (at : Span) (args : List Datum) → OfKnown Q (array_level simple at args)
  of_array_level simple at [] = on_array simple dimensions.Any tt
  of_array_level simple at (e ∷ []) = of_elements (part_of e) simple dimensions.Any tt
  of_array_level simple at (e ∷ dims ∷ []) = of_arrays (part_of e) simple (dimensions_of dims) (small_dimensions dims)
  of_array_level simple at (e ∷ dims ∷ d ∷ ds) = tt

  small_one : (n : Option ℕ) → IsSmallPlace n → AreSmallDimensions (one_place n)
  small_one n h = (lit≤ tt, (h, tt))

  of_vector_with : (e : Option Datum) (n : Result (Option ℕ) Refusal) → IfOk n IsSmallPlace → OfKnown Q (vector_with e n)
  of_vector_with e (Err x) h = tt
  of_vector_with e (Ok n) h = of_elements e false (one_place n) (small_one n h)

  of_vector_level : (at : Span) (args : List Datum) → OfKnown Q (vector_level at args)
  of_vector_level at [] = on_array false (one_place None) (small_one None tt)
  of_vector_level at (e ∷ []) = of_elements (part_of e) false (one_place None) (small_one None tt)
  of_vector_level at (e ∷ n ∷ []) = of_vector_with (part_of e) (place_of n) (small_place n)
  of_vector_level at (e ∷ n ∷ d ∷ ds) = tt

  of_of_length : (said : Option ℕ → Specifier) → ((n : Option ℕ) → IsSmallPlace n → Q (said n)) → (n : Result (Option ℕ) Refusal) → IfOk n IsSmallPlace → OfKnown Q (of_length said n)
  of_of_length said on (Err x) h = tt
  of_of_length said on (Ok n) h = on n h

  of_length_level : (said : Option ℕ → Specifier) → ((n : Option ℕ) → IsSmallPlace n → Q (said n)) → (at : Span) (args : List Datum) → OfKnown Q (length_level said at args)
  of_length_level said on at [] = on None tt
  of_length_level said on at (n ∷ []) = of_of_length said on (place_of n) (small_place n)
  of_length_level said on at (n ∷ d ∷ ds) = tt

  of_named_level : (b : Builtin) (simple : Bool) (at : Span) (args : List Datum) → OfKnown Q (length_level (vectors_over b simple) at args)
  of_named_level b simple at args = of_length_level (vectors_over b simple) (on_vector b simple) at args

  of_string_level : (simple : Bool) (at : Span) (args : List Datum) → OfKnown Q (length_level (string_of simple) at args)
  of_string_level simple at args = of_length_level (string_of simple) (on_string simple) at args

  -- ---- all heads and data

  of_built_list : (at : Span) (args : List Datum) (b : Builtin) → OfKnown Q (built_list at args b)
  of_built_list at args name.Not = of_not_level at args
  of_built_list at args name.Eql = of_eql_level at args
  of_built_list at args name.Satisfies = of_satisfies_level at args
  of_built_list at args name.Cons = of_cons_level at args
  of_built_list at args name.Integer = of_range_level Integer at args
  of_built_list at args name.Rational = of_range_level Rational at args
  of_built_list at args name.Mod = of_mod_level at args
  of_built_list at args name.SignedByte = of_signed_level at args
  of_built_list at args name.UnsignedByte = of_unsigned_level at args
  of_built_list at args name.Float = of_starred_level kind.FloatRange 2 name.Float at args (on_atom at name.Float)
  of_built_list at args name.ShortFloat = of_starred_level kind.FloatRange 2 name.ShortFloat at args (on_atom at name.ShortFloat)
  of_built_list at args name.SingleFloat = of_starred_level kind.FloatRange 2 name.SingleFloat at args (on_atom at name.SingleFloat)
  of_built_list at args name.LongFloat = of_starred_level kind.FloatRange 2 name.LongFloat at args (on_atom at name.LongFloat)
  of_built_list at args name.DoubleFloat = of_starred_level kind.FloatRange 2 name.DoubleFloat at args (on_atom at name.DoubleFloat)
  of_built_list at args name.Real = of_starred_level kind.FloatRange 2 name.Real at args (on_atom at name.Real)
  of_built_list at args name.Complex = of_starred_level kind.ComplexPart 1 name.Complex at args (on_atom at name.Complex)
  of_built_list at args name.Array = of_array_level false at args
  of_built_list at args name.SimpleArray = of_array_level true at args
  of_built_list at args name.Vector = of_vector_level at args
  of_built_list at args name.SimpleVector = of_named_level name.T true at args
  of_built_list at args name.BitVector = of_named_level name.Bit false at args
  of_built_list at args name.SimpleBitVector = of_named_level name.Bit true at args
  of_built_list at args name.BaseString = of_named_level name.BaseChar false at args
  of_built_list at args name.SimpleBaseString = of_named_level name.BaseChar true at args
  of_built_list at args name.String = of_string_level false at args
  of_built_list at args name.SimpleString = of_string_level true at args
  of_built_list at args _ = tt

  -- a name of the file shows no specifier by itself
  of_use : (at : Span) (args : List Datum) (t : Definition) → OfKnown Q (use_of t at args)
  of_use at args t =
      cond_both (takes t (length args)) (expanded (substituted t at args)) (refused (refusal kind.ArgumentCount at)) (OfKnown Q) (λ e. tt) (λ e. tt)

  of_use_by : (at : Span) (args : List Datum) (t : Option Definition) → OfKnown Q (use_by t at args)
  of_use_by at args None = tt
  of_use_by at args (Some t) = of_use at args t

  of_status : (at : Span) (args : List Datum) (s : NameStatus) → OfKnown Q (level_by env s at args)
  of_status at args (status.Deftype n) = of_use_by at args (slice_get env.templates n)
  of_status at args _ = tt

  of_own : (at : Span) (s : Symbol) (args : List Datum) → OfKnown Q (own_level env at s args)
  of_own at s args = of_status at args (status_of env s)

  -- but a structure type does
  of_own_atom : (at : Span) (s : Symbol) (x : NameStatus) → status_of env s ≡ x → OfKnown Q (atom_by env s x at)
  of_own_atom at s status.Structure e = on_structure s e
  of_own_atom at s (status.Deftype n) e = of_use_by at [] (slice_get env.templates n)
  of_own_atom at s _ e = tt

  of_head : (at : Span) (s : Symbol) (args : List Datum) (b : Option Builtin) → OfKnown Q (list_level env at s args b)
  of_head at s args None = of_own at s args
  of_head at s args (Some b) = of_built_list at args b

  of_atom : (at : Span) (s : Symbol) (b : Option Builtin) → OfKnown Q (atom_level env at s b)
  of_atom at s None = of_own_atom at s (status_of env s) refl
  of_atom at s (Some b) = on_atom at b

  of_items : (at : Span) (args : List Datum) (f : Form-F Form Datum) → OfKnown Q (head_level env at args f)
  of_items at args (Form-F.Symbol s) = of_head at s args (builtin_of s)
  of_items at args _ = tt

  of_list : (at : Span) (items : List Datum) → OfKnown Q (items_level env at items)
  of_list at [] = tt
  of_list at (head ∷ args) = of_items at args (out-Form head.form)

  of_form : (at : Span) (f : Form-F Form Datum) → OfKnown Q (form_level env at f)
  of_form at (Form-F.Symbol s) = of_atom at s (builtin_of s)
  of_form at (Form-F.List items) = of_list at items
  of_form at (Form-F.Quote d) = of_own at quote_symbol (d ∷ [])
  of_form at _ = tt

  -- the specifier that a datum shows by itself has the property
  of_level : (d : Datum) → OfKnown Q (level env d)
  of_level d = of_form d.span (out-Form d.form)

-- ---- all levels

-- P n holds of what is denoted by n levels, where the structure types that are named have the property N
pub record IsKept (N : Symbol → Type 0) (P : ℕ → Specifier → Type 0) : Type 0 where
  pub structure : (n : ℕ) (s : Symbol) → N s → P (suc n) (structure_under s)
  pub predicate : (n : ℕ) (p : Symbol) → P (suc n) (satisfies p)
  pub range : (n : ℕ) (k : RangeKind) (lo hi : Bound) → IsSmallBound lo → IsSmallBound hi → P (suc n) (range_of k lo hi)
  pub atom : (n : ℕ) (at : Span) (b : Builtin) → OfKnown (P (suc n)) (built_atom at b)
  pub array : (n : ℕ) (simple : Bool) (dims : DimPattern) → AreSmallDimensions dims → P (suc n) (array_any simple dims)
  pub vector : (n : ℕ) (b : Builtin) (simple : Bool) (length : Option ℕ) → IsSmallPlace length → P (suc n) (vectors_over b simple length)
  pub string : (n : ℕ) (simple : Bool) (length : Option ℕ) → IsSmallPlace length → P (suc n) (string_of simple length)
  pub point : (n : ℕ) (p : Point) → IsSmallPoint p → P n (eql_to p)
  pub all : (n : ℕ) (ss : List Specifier) → AllByRecursion (P n) ss → P (suc n) (conjunction ss)
  pub some : (n : ℕ) (ss : List Specifier) → AllByRecursion (P n) ss → P (suc n) (disjunction ss)
  pub none : (n : ℕ) (s : Specifier) → P n s → P (suc n) (not_of s)
  pub any : (n : ℕ) → P n all_objects
  pub pair : (n : ℕ) (a b : Specifier) → P n a → P n b → P (suc n) (cons_of a b)
  pub element : (n : ℕ) (e : Specifier) (simple : Bool) (dims : DimPattern) → AreSmallDimensions dims → P n e → P (suc n) (array_of e simple dims)
  pub deeper : (n : ℕ) (s : Specifier) → P n s → P (suc n) s

module _ (N : Symbol → Type 0) (P : ℕ → Specifier → Type 0) (kept : IsKept N P) where
  of_number : (n : ℕ) (at : Span) (o : Option Rat) → IfSome o IsSmall → IfOk (number_point at o) (P n)
  of_number n at None h = tt
  of_number n at (Some r) h = kept.point n (point.Number r) h

  of_object : (n : ℕ) (at : Span) (f : Form-F Form Datum) → IfOk (object_form at f) (P n)
  of_object n at (Form-F.Symbol s) = kept.point n (point.Sym s) tt
  of_object n at (Form-F.Char c) = kept.point n (point.Char c) tt
  of_object n at (Form-F.Number l) = of_number n at (written l) (small_written l)
  of_object n at _ = tt

  of_eql : (n : ℕ) (d : Datum) (s : Specifier) → IsEql d s → P n s
  of_eql n d s e = subst (λ r. IfOk r (P n)) e (of_object n d.span (out-Form d.form))

  of_each : (n : ℕ) (R : Datum → Specifier → Type 0) → ((d : Datum) (s : Specifier) → R d s → P n s)
      → (ds : List Datum) (ss : List Specifier) → Each R ds ss → AllByRecursion (P n) ss
  of_each n R h [] [] each = tt
  of_each n R h [] (s ∷ ss) each = absurd each
  of_each n R h (d ∷ ds) [] each = absurd each
  of_each n R h (d ∷ ds) (s ∷ ss) each = (h d s each.0, of_each n R h ds ss each.1)

  of_part : (n : ℕ) (R : Datum → Specifier → Type 0) → ((d : Datum) (s : Specifier) → R d s → P n s)
      → (part : Option Datum) (s : Specifier) → SaysPart R part s → P n s
  of_part n R h None s says = subst (P n) (sym says) (kept.any n)
  of_part n R h (Some d) s says = h d s says

  of_says : (n : ℕ) (R : Datum → Specifier → Type 0) → ((d : Datum) (s : Specifier) → R d s → P n s)
      → (l : Level) (s : Specifier) → OfKnown (P (suc n)) l → Says R l s → P (suc n) s
  of_says n R h (refused x) s shown says = absurd says
  of_says n R h (known t) s shown says = subst (P (suc n)) (sym says) shown
  of_says n R h (object d) s shown says = of_eql (suc n) d s says
  of_says n R h (members ds) s shown says = subst (P (suc n)) (sym says.1) (kept.some n says.0 (of_each n IsEql (of_eql n) ds says.0 says.2))
  of_says n R h (all_of ds) s shown says = subst (P (suc n)) (sym says.1) (kept.all n says.0 (of_each n R h ds says.0 says.2))
  of_says n R h (some_of ds) s shown says = subst (P (suc n)) (sym says.1) (kept.some n says.0 (of_each n R h ds says.0 says.2))
  of_says n R h (none_of d) s shown says = subst (P (suc n)) (sym says.1) (kept.none n says.0 (h d says.0 says.2))
  of_says n R h (pair_of car cdr) s shown says =
      subst (P (suc n)) (sym says.2) (kept.pair n says.0 says.1 (of_part n R h car says.0 says.3) (of_part n R h cdr says.1 says.4))
  of_says n R h (array_over d simple dims) s shown says = subst (P (suc n)) (sym says.1) (kept.element n says.0 simple dims shown (h d says.0 says.2))
  of_says n R h (expanded d) s shown says = kept.deeper n s (h d s says)

  -- what the levels keep holds of each specifier that a datum denotes
  pub kept_in : (env : Environment) → ((s : Symbol) → status_of env s ≡ status.Structure → N s)
      → (n : ℕ) (d : Datum) (s : Specifier) → DenotesIn env n d s → P n s
  kept_in env named zero d s h = absurd h
  kept_in env named (suc n) d s h =
      of_says n (DenotesIn env n) (kept_in env named n) (level env d) s
      (of_level (P (suc n)) env (λ x e. kept.structure n x (named x e)) (kept.predicate n) (kept.range n) (kept.atom n) (kept.array n) (kept.vector n) (kept.string n) d) h
