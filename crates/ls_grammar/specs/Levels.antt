-- What a datum can say as a specifier one level deep, and what the built-in heads of lists say (4.2.3).
use Rattle.std.specs.Prelude.{ℕ, ℤ, pos, neg_ℤ, ◌-ℤ◌, ◌-◌, ◌^◌, nat_le, Bool, if◌then◌else◌, List, [], ◌∷◌, length, Option, Some, None, Result, Ok, Err}
use Rattle.std.specs.List.{list_all}
use Rattle.ls_reader.specs.declared.datum.Span.{Span}
use Rattle.ls_reader.specs.declared.datum.Datum.{Datum}
use Rattle.ls_reader.specs.declared.datum.Form.{Form, out-Form}
use Rattle.ls_reader.specs.declared.datum.Form.TheOpen.{Form-F}
use Rattle.ls_tables.specs.declared.name.Builtin.{Builtin}
use Rattle.ls_tables.specs.declared.name.Builtin.TheVariants as name
use Rattle.ls_spec.specs.declared.spec.RangeKind.{RangeKind}
use Rattle.ls_spec.specs.declared.spec.RangeKind.TheVariants.{Integer}
use Rattle.ls_spec.specs.declared.spec.Bound.{Bound}
use Rattle.ls_spec.specs.declared.spec.Bound.TheVariants.{Free, Incl}
use Rattle.ls_spec.specs.declared.spec.DimPattern.{DimPattern}
use Rattle.ls_spec.specs.Specifier.{Specifier, range_of, satisfies}
use Rattle.ls_spec.specs.Builtins.{expansion}
use Rattle.ls_grammar.specs.declared.refusal.RefusalKind.{RefusalKind}
use Rattle.ls_grammar.specs.declared.refusal.RefusalKind.TheVariants as kind
use Rattle.ls_grammar.specs.declared.refusal.Refusal.{Refusal}
use Rattle.ls_grammar.specs.Numbers.{refusal, whole, is_star, bound_of, size_of, bits_of}

pub data Level : Type 0 where
  -- the first thing that is wrong, and its place
  refused : Refusal → Level
  -- a specifier, with nothing to look at below
  known : Specifier → Level
  -- the object of EQL, and those of MEMBER
  object : Datum → Level
  members : List Datum → Level
  -- AND, OR and NOT of specifiers
  all_of : List Datum → Level
  some_of : List Datum → Level
  none_of : Datum → Level
  -- CONS of a car and a cdr; where there is no datum, of any object
  pair_of : Option Datum → Option Datum → Level
  -- ARRAY or SIMPLE-ARRAY, the latter where the flag is set, of an element type
  array_over : Datum → Bool → DimPattern → Level
  -- a use of a DEFTYPE, with its expansion
  expanded : Datum → Level

abbrev pub bad_argument : Span → Level
bad_argument at = refused (refusal kind.BadArgument at)

-- ---- lists with arguments

abbrev pub range : RangeKind → Result Bound Refusal → Result Bound Refusal → Level
range k (Err x) hi = refused x
range k (Ok lo) (Err x) = refused x
range k (Ok lo) (Ok hi) = known (range_of k lo hi)

-- INTEGER and RATIONAL take at most two bounds
abbrev pub range_level : RangeKind → Span → List Datum → Level
range_level k at [] = range k (Ok Free) (Ok Free)
range_level k at (lo ∷ []) = range k (bound_of k lo) (Ok Free)
range_level k at (lo ∷ hi ∷ []) = range k (bound_of k lo) (bound_of k hi)
range_level k at _ = bad_argument at

-- the integers from `lo` to `hi`
abbrev pub from_to : ℤ → ℤ → Specifier
from_to lo hi = range_of Integer (Incl (whole lo)) (Incl (whole hi))

-- the integers from 0 below n, those of n bits with one of them for the sign, and those of n bits without a sign
abbrev pub below : ℕ → Specifier
below n = from_to (pos 0) (pos n -ℤ pos 1)

abbrev pub signed_bytes : ℕ → Specifier
signed_bytes n = from_to (neg_ℤ (pos (2 ^ (n - 1)))) (pos (2 ^ (n - 1)) -ℤ pos 1)

abbrev pub unsigned_bytes : ℕ → Specifier
unsigned_bytes n = from_to (pos 0) (pos (2 ^ n) -ℤ pos 1)

abbrev pub sized : (ℕ → Specifier) → Result ℕ Refusal → Level
sized integers (Err x) = refused x
sized integers (Ok n) = known (integers n)

-- MOD takes one size
abbrev pub mod_level : Span → List Datum → Level
mod_level at (d ∷ []) = sized below (size_of d)
mod_level at _ = bad_argument at

-- SIGNED-BYTE takes a size of at most 65, or `*`
abbrev pub signed_level : Span → List Datum → Level
signed_level at [] = known (expansion name.SignedByte)
signed_level at (d ∷ []) =
    if is_star d then known (expansion name.SignedByte) else sized signed_bytes (bits_of 65 d)
signed_level at _ = bad_argument at

-- UNSIGNED-BYTE takes a size of at most 64, or `*`
abbrev pub unsigned_level : Span → List Datum → Level
unsigned_level at [] = known (expansion name.UnsignedByte)
unsigned_level at (d ∷ []) =
    if is_star d then known (expansion name.UnsignedByte) else sized unsigned_bytes (bits_of 64 d)
unsigned_level at _ = bad_argument at

-- the names of floats, and REAL, take at most two arguments, each of them `*`; so does COMPLEX with one
abbrev pub starred_level : RefusalKind → ℕ → Builtin → Span → List Datum → Level
starred_level otherwise most b at args =
    if list_all is_star args then (if nat_le (length args) most then known (expansion b) else bad_argument at)
    else refused (refusal otherwise at)

-- NOT takes one specifier
abbrev pub not_level : Span → List Datum → Level
not_level at (d ∷ []) = none_of d
not_level at _ = bad_argument at

-- EQL takes one object
abbrev pub eql_level : Span → List Datum → Level
eql_level at (d ∷ []) = object d
eql_level at _ = bad_argument at

-- SATISFIES takes one symbol, the name of a predicate
abbrev pub predicate_form : Span → Form-F Form Datum → Level
predicate_form at (Form-F.Symbol p) = known (satisfies p)
predicate_form at _ = bad_argument at

abbrev pub satisfies_level : Span → List Datum → Level
satisfies_level at (d ∷ []) = predicate_form at (out-Form d.form)
satisfies_level at _ = bad_argument at

-- CONS takes at most two specifiers; one that is missing, or `*`, is T
abbrev pub part_of : Datum → Option Datum
part_of d = if is_star d then None else Some d

abbrev pub cons_level : Span → List Datum → Level
cons_level at [] = pair_of None None
cons_level at (car ∷ []) = pair_of (part_of car) None
cons_level at (car ∷ cdr ∷ []) = pair_of (part_of car) (part_of cdr)
cons_level at _ = bad_argument at
