-- The types of the entries of the upgrading table are what the entries hold.
use Rattle.std.proofs.Common.{ℕ, ℤ, pos, ◌≡◌, ◌<◌, ◌≤ℤ◌, ◌*ℤ◌, ◌^◌, ◌*◌, ◌⊎◌, inl, inr, ◌↔◌, refl, sym, ap, subst, ◌∙◌, Bool, true, false, true≢false, unsigned_abs, List, Option, Some, None, arith}
use Rattle.std.specs.Char.{IsScalar}
use Rattle.std.specs.List.{AllByRecursion, slice_get}
use Rattle.std.proofs.Math.Dec.{lit<}
use Rattle.std.proofs.Math.IntN.{*ℤ-one, one}
use Rattle.std.proofs.Math.Utf8.{scalar_cases}
use Rattle.std.proofs.lemmas.Bool.{lt-ltb, ltb-true}
use Rattle.std.proofs.lemmas.Option.{slice_get_within, get_or_from_slice_get}
use Rattle.ls_object.specs.declared.kind.Kind.{Kind}
use Rattle.ls_object.specs.declared.symbol.Symbol.{Symbol}
use Rattle.ls_object.specs.declared.table.Entry.{Entry}
use Rattle.ls_object.specs.declared.table.TheConstants.{UPGRADING_TABLE}
use Rattle.ls_object.specs.Integers.{integer}
use Rattle.ls_object.specs.Limits.{numerator_limit}
use Rattle.ls_object.specs.Universe.{LispObject, node, LispShape, number, character, symbol, pair, array, structure, opaque, Structures, IsObject, IsShape}
use Rattle.ls_object.specs.Table.{Extent, nothing, integers, characters, one_kind, everything, extent, IsWithin, IsHeldBy, Holds}
use Rattle.ls_object.proofs.RatLemmas.{is_the_integer}
use Rattle.ls_spec.specs.declared.spec.RangeKind.TheVariants.{Integer}
use Rattle.ls_spec.specs.declared.spec.Bound.TheVariants.{Incl}
use Rattle.ls_spec.specs.Specifier.{range_of}
use Rattle.ls_spec.specs.Membership.{Belongs, IsInRange}
use Rattle.ls_spec.specs.Entries.{is_held, integers_if, integers_within, characters_below, extent_specifier, specifier_at, code_specifier}
use Rattle.ls_spec.proofs.ListLemmas.{AllByRecursion-at}

-- integers that bounds can hold, and characters below 128 or all
abbrev pub IsHeldExtent : Extent → Type 0
IsHeldExtent nothing = Unit {0}
IsHeldExtent (integers lo hi) = (unsigned_abs lo < numerator_limit) × (unsigned_abs hi < numerator_limit)
IsHeldExtent (characters limit) = (limit ≡ 128) ⊎ (limit ≡ 17 * 2 ^ 16)
IsHeldExtent (one_kind k) = Unit {0}
IsHeldExtent everything = Unit {0}

-- bounds that are held make a range
integers_if-held : (lo hi : ℤ) (p : unsigned_abs lo < numerator_limit) (q : unsigned_abs hi < numerator_limit)
    (b c : Bool) (e : is_held lo ≡ b) (f : is_held hi ≡ c)
    → integers_if lo hi b c e f ≡ range_of Integer (Incl (integer lo p)) (Incl (integer hi q))
integers_if-held lo hi p q true true e f =
    let g = is_the_integer (integer lo (ltb-true _ _ e)) lo p refl refl in
    let h = is_the_integer (integer hi (ltb-true _ _ f)) hi q refl refl in
    cc
integers_if-held lo hi p q true false e f = absurd (true≢false (sym (lt-ltb _ _ q) ∙ f))
integers_if-held lo hi p q false c e f = absurd (true≢false (sym (lt-ltb _ _ p) ∙ e))

-- the same without a word of the tests
pub integers_within-held : (lo hi : ℤ) (p : unsigned_abs lo < numerator_limit) (q : unsigned_abs hi < numerator_limit)
    → integers_within lo hi ≡ range_of Integer (Incl (integer lo p)) (Incl (integer hi q))
integers_within-held lo hi p q = integers_if-held lo hi p q (is_held lo) (is_held hi) refl refl

-- no character has a code past the last one
scalar_below : (c : ℕ) → IsScalar c → c < 17 * 2 ^ 16
scalar_below c is = elim (scalar_cases c is) [ inl l ↦ omega arith | inr l ↦ l.1 ]

-- an integer as a fraction
over_one : (z : ℤ) → z *ℤ pos 1 ≡ z
unfolding one
over_one z = *ℤ-one z

times_one : (z : ℤ) (d : ℕ) → d ≡ 1 → z *ℤ pos d ≡ z
times_one z d e = ap (λ n. z *ℤ pos n) e ∙ over_one z

-- a range of integers is the integers from the one bound to the other
range_within : (lo hi : ℤ) (p : unsigned_abs lo < numerator_limit) (q : unsigned_abs hi < numerator_limit) (shape : LispShape)
    → IsInRange Integer (Incl (integer lo p)) (Incl (integer hi q)) shape ↔ IsWithin (integers lo hi) shape
range_within lo hi p q (number n d) = (
  λ h. (
    h.0,
    subst (λ m. m ≤ℤ n) (times_one lo d h.0) (subst (λ m. (lo *ℤ pos d) ≤ℤ m) (over_one n) h.1),
    subst (λ m. n ≤ℤ m) (times_one hi d h.0) (subst (λ m. m ≤ℤ (hi *ℤ pos d)) (over_one n) h.2),
  ),
  λ h. (
    h.0,
    subst (λ m. (lo *ℤ pos d) ≤ℤ m) (sym (over_one n)) (subst (λ m. m ≤ℤ n) (sym (times_one lo d h.0)) h.1),
    subst (λ m. m ≤ℤ (hi *ℤ pos d)) (sym (over_one n)) (subst (λ m. n ≤ℤ m) (sym (times_one hi d h.0)) h.2),
  ),
)
range_within lo hi p q (character c) = (λ h. h, λ h. h)
range_within lo hi p q (symbol s) = (λ h. h, λ h. h)
range_within lo hi p q (pair x y) = (λ h. h, λ h. h)
range_within lo hi p q (array c simple dims) = (λ h. h, λ h. h)
range_within lo hi p q (structure s) = (λ h. h, λ h. h)
range_within lo hi p q (opaque k) = (λ h. h, λ h. h)

module _ (structures : Structures) (marks : List Symbol) where
  -- BASE-CHAR is the characters below 128
  base_within : (shape : LispShape) → Belongs structures (characters_below 128) (node marks shape) ↔ IsWithin (characters 128) shape
  base_within (number n d) = (λ h. h, λ h. h)
  base_within (character c) = (λ h. h, λ h. h)
  base_within (symbol s) = (λ h. h, λ h. h)
  base_within (pair x y) = (λ h. h, λ h. h)
  base_within (array c simple dims) = (λ h. h, λ h. h)
  base_within (structure s) = (λ h. h, λ h. h)
  base_within (opaque k) = (λ h. h, λ h. h)

  -- CHARACTER is those below the greatest code
  all_within : (shape : LispShape) → IsShape structures shape → Belongs structures (characters_below (17 * 2 ^ 16)) (node marks shape) ↔ IsWithin (characters (17 * 2 ^ 16)) shape
  all_within (number n d) is = (λ h. h, λ h. h)
  all_within (character c) is = (λ h. scalar_below c is, λ h. tt)
  all_within (symbol s) is = (λ h. h, λ h. h)
  all_within (pair x y) is = (λ h. h, λ h. h)
  all_within (array c simple dims) is = (λ h. h, λ h. h)
  all_within (structure s) is = (λ h. h, λ h. h)
  all_within (opaque k) is = (λ h. h, λ h. h)

  -- the opaque objects of one kind
  kind_within : (k : Kind) (shape : LispShape) → Belongs structures (extent_specifier (one_kind k)) (node marks shape) ↔ IsWithin (one_kind k) shape
  kind_within k (number n d) = (λ h. h, λ h. h)
  kind_within k (character c) = (λ h. h, λ h. h)
  kind_within k (symbol s) = (λ h. h, λ h. h)
  kind_within k (pair x y) = (λ h. h, λ h. h)
  kind_within k (array c simple dims) = (λ h. h, λ h. h)
  kind_within k (structure s) = (λ h. h, λ h. h)
  kind_within k (opaque j) = (λ h. h, λ h. h)

  -- what belongs to the type of an extent is in the extent
  extent_alike : (x : Extent) (shape : LispShape) → IsHeldExtent x → IsShape structures shape → Belongs structures (extent_specifier x) (node marks shape) ↔ IsWithin x shape
  extent_alike nothing shape held is = (λ h. h, λ h. h)
  extent_alike (integers lo hi) shape held is =
      subst (λ s. Belongs structures s (node marks shape) ↔ IsWithin (integers lo hi) shape) (sym (integers_within-held lo hi held.0 held.1)) (range_within lo hi held.0 held.1 shape)
  extent_alike (characters limit) shape (inl e) is =
      subst (λ l. Belongs structures (characters_below l) (node marks shape) ↔ IsWithin (characters l) shape) (sym e) (base_within shape)
  extent_alike (characters limit) shape (inr e) is =
      subst (λ l. Belongs structures (characters_below l) (node marks shape) ↔ IsWithin (characters l) shape) (sym e) (all_within shape is)
  extent_alike (one_kind k) shape held is = kind_within k shape
  extent_alike everything shape held is = (λ h. h, λ h. h)

-- the entries of the table are such
pub entries_held : AllByRecursion (λ e. IsHeldExtent (extent e)) UPGRADING_TABLE
entries_held =
    (tt, ((lit< tt, lit< tt), ((lit< tt, lit< tt), ((lit< tt, lit< tt), ((lit< tt, lit< tt), ((lit< tt, lit< tt), ((lit< tt, lit< tt), ((lit< tt, lit< tt), ((lit< tt, lit< tt), ((lit< tt, lit< tt), ((lit< tt, lit< tt), ((lit< tt, lit< tt), ((lit< tt, lit< tt), ((lit< tt, lit< tt), (inl refl, (inr refl, (tt, (tt, (tt, tt)))))))))))))))))))

-- the same of the entry at a place
pub entry_held : (c : ℕ) (e : Entry) → slice_get UPGRADING_TABLE c ≡ Some e → IsHeldExtent (extent e)
entry_held c e is = AllByRecursion-at (λ e. IsHeldExtent (extent e)) UPGRADING_TABLE e c entries_held (slice_get_within UPGRADING_TABLE c e is) (get_or_from_slice_get UPGRADING_TABLE c e e is)

-- what belongs to the type of an entry is held by it
entry_alike : (structures : Structures) (marks : List Symbol) (shape : LispShape) (c : ℕ) (found : Option Entry)
    → slice_get UPGRADING_TABLE c ≡ found → IsShape structures shape
    → Belongs structures (specifier_at found) (node marks shape) ↔ IsHeldBy found (node marks shape)
entry_alike structures marks shape c None at is = (λ h. h, λ h. h)
entry_alike structures marks shape c (Some e) at is = extent_alike structures marks (extent e) shape (entry_held c e at) is

-- an object belongs to the type of an element code exactly where arrays of that code can hold it
pub Belongs-code : (structures : Structures) (c : ℕ) (o : LispObject) → IsObject structures o → Belongs structures (code_specifier c) o ↔ Holds c o
Belongs-code structures c (node marks shape) is = entry_alike structures marks shape c (slice_get UPGRADING_TABLE c) refl is.1
