-- The specifiers of the entries of the upgrading table (15.1.2.1).
use Rattle.std.specs.Prelude.{ℕ, ℤ, ◌==◌, Bool, true, false, ◌≡◌, if◌then◌else◌, unsigned_abs, Option, None, Some, slice_get}
use Rattle.std.proofs.Common.{refl}
use Rattle.std.proofs.Math.Dec.{ltb}
use Rattle.std.proofs.lemmas.Bool.{ltb-true}
use Rattle.ls_object.specs.declared.table.Entry.{Entry}
use Rattle.ls_object.specs.declared.table.TheConstants.{UPGRADING_TABLE}
use Rattle.ls_object.specs.Integers.{integer}
use Rattle.ls_object.specs.Limits.{numerator_limit}
use Rattle.ls_object.specs.Table.{Extent, nothing, integers, characters, one_kind, everything, extent}
use Rattle.ls_spec.specs.declared.spec.RangeKind.TheVariants.{Integer}
use Rattle.ls_spec.specs.declared.spec.Bound.TheVariants.{Incl}
use Rattle.ls_spec.specs.declared.spec.CharClass.TheVariants as char_class
use Rattle.ls_spec.specs.Specifier.{Specifier, all_objects, no_objects, range_of, chars_of, kind_of}

-- an integer that a bound can hold
abbrev pub is_held : ℤ → Bool
is_held z = ltb (unsigned_abs z) numerator_limit

-- the same, with what is known of both bounds
abbrev pub integers_if : (lo hi : ℤ) (b c : Bool) → is_held lo ≡ b → is_held hi ≡ c → Specifier
integers_if lo hi true true p q = range_of Integer (Incl (integer lo (ltb-true _ _ p))) (Incl (integer hi (ltb-true _ _ q)))
integers_if lo hi true false p q = no_objects
integers_if lo hi false c p q = no_objects

-- (integer lo hi); NIL where a bound can't hold such a number, which no entry of the table needs
abbrev pub integers_within : ℤ → ℤ → Specifier
integers_within lo hi = integers_if lo hi (is_held lo) (is_held hi) refl refl

-- BASE-CHAR for codes below 128, and else CHARACTER
abbrev pub characters_below : ℕ → Specifier
characters_below limit = if limit == 128 then chars_of char_class.Base else chars_of char_class.Any

-- the type of the objects in the extent
abbrev pub extent_specifier : Extent → Specifier
extent_specifier nothing = no_objects
extent_specifier (integers lo hi) = integers_within lo hi
extent_specifier (characters limit) = characters_below limit
extent_specifier (one_kind k) = kind_of k
extent_specifier everything = all_objects

-- the type that an entry is
abbrev pub entry_specifier : Entry → Specifier
entry_specifier entry = extent_specifier (extent entry)

-- the same of the entry, where there is one; NIL where there is none
abbrev pub specifier_at : Option Entry → Specifier
specifier_at None = no_objects
specifier_at (Some entry) = entry_specifier entry

-- the type that arrays with the element code hold
abbrev pub code_specifier : ℕ → Specifier
code_specifier code = specifier_at (slice_get UPGRADING_TABLE code)
