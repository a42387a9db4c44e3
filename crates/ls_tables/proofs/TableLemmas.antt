-- The laws of the upgrading table: tests over all its places, and what they say of all objects.
use Rattle.std.proofs.Common.{ℕ, zero, suc, ◌≡◌, ◌<◌, ◌≤◌, ◌-◌, ◌%◌, refl, ap, sym, subst, ◌∙◌, ◌↔◌, ◌⊎◌, inl, inr, Bool, true, false, true≢false, not, ◌&&◌, ◌==◌, nat_lt, nat_le, List, [], ◌∷◌, length, get_or, Option, Some, None, slice_get, arith}
use Rattle.std.specs.List.{AllByRecursion, list_any, list_all, position_or_len}
use Rattle.std.specs.Int.{IsGcd}
use Rattle.std.specs.Prelude.{unsigned_abs}
use Rattle.std.proofs.Math.Utf8.{scalar}
use Rattle.std.proofs.lemmas.Bool.{and_parts, ltb-true, leb-true}
use Rattle.std.proofs.lemmas.Bool.Decides.{Decides-eqb}
use Rattle.std.proofs.lemmas.List.Sums.{passes_at_first}
use Rattle.std.proofs.lemmas.Nat.Gcd.{IsGcd-from_zero, IsGcd-from_mod}
use Rattle.std.proofs.lemmas.Option.{slice_get-get_or}
use Rattle.ls_object.specs.declared.symbol.Symbol.{Symbol}
use Rattle.ls_object.specs.declared.table.Entry.{Entry}
use Rattle.ls_object.specs.declared.table.Entry.TheVariants.{Nil, Bit, UnsignedByte, SignedByte, BaseChar, Character, OfKind, T}
use Rattle.ls_object.specs.declared.table.TheConstants.{UPGRADING_TABLE, TABLE_LEN}
use Rattle.ls_object.specs.Universe.{node, LispShape, number, character, symbol, pair, array, structure, opaque, Structures, IsShape}
use Rattle.ls_object.specs.Table.{Extent, nothing, integers, characters, one_kind, everything, extent, IsWithin, IsHeldBy, Holds}
use Rattle.ls_tables.specs.Table.{extent_of_entry, extent_at, IsMeeting, LiesWithin, LiesProperlyWithin}
use Rattle.ls_tables.specs.steps.Meeting.{meeting, same_extent, meeting_place}
use Rattle.ls_tables.specs.steps.Widths.{HasHeldWidth}
use Rattle.ls_tables.proofs.MeetingLemmas.{has, Decides-has, same_extents, meeting_holds}

-- what holds of each element holds of the one at a place
pub each_at : {X : Type 0} (P : X → Type 0) (xs : List X) (x : X) (k : ℕ) → AllByRecursion P xs → k < length xs → get_or xs k x ≡ x → P x
each_at P [] x k h l e = absurd (omega arith)
each_at P (y ∷ ys) x zero h l e = subst P e h.0
each_at P (y ∷ ys) x (suc k) h l e = each_at P ys x k h.1 (omega arith) e

-- whether an entry has a width that is held
abbrev is_held : Entry → Bool
is_held (UnsignedByte bits) = nat_le bits 64
is_held (SignedByte bits) = nat_le 1 bits && nat_le bits 64
is_held entry = true

entry_held : (e : Entry) → is_held e ≡ true → HasHeldWidth e
entry_held (UnsignedByte bits) h = leb-true _ _ h
entry_held (SignedByte bits) h = let parts = and_parts _ _ h in (leb-true _ _ parts.0, leb-true _ _ parts.1)
entry_held Nil h = tt
entry_held Bit h = tt
entry_held BaseChar h = tt
entry_held Character h = tt
entry_held (OfKind k) h = tt
entry_held T h = tt

all_held : (es : List Entry) → list_all is_held es ≡ true → AllByRecursion HasHeldWidth es
all_held [] h = tt
all_held (e ∷ es) h = let parts = and_parts (is_held e) (list_all is_held es) h in (entry_held e parts.0, all_held es parts.1)

-- the widths of the entries of the table are such as are held
pub widths_held : AllByRecursion HasHeldWidth UPGRADING_TABLE
widths_held = all_held UPGRADING_TABLE refl

-- what an entry holds, where there is one, by its extent
held_by_extent : (found : Option Entry) (marks : List Symbol) (s : LispShape) → IsHeldBy found (node marks s) ↔ IsWithin (extent_of_entry found) s
held_by_extent None marks s = (λ h. h, λ h. h)
held_by_extent (Some entry) marks s = (λ h. h, λ h. h)

-- the same of the entry at a place
holds_by_extent : (c : ℕ) (marks : List Symbol) (s : LispShape) → Holds c (node marks s) ↔ IsWithin (extent_at c) s
holds_by_extent c marks s = held_by_extent (slice_get UPGRADING_TABLE c) marks s

-- ---- tests over all places

-- at each number below n
abbrev all_below : ℕ → (ℕ → Bool) → Bool
all_below zero p = true
all_below (suc n) p = p n && all_below n p

-- a number is the greatest below a bound, or below that one
below_step : (n i : ℕ) → i < suc n → (i ≡ n) ⊎ (i < n)
below_step n i l = grind arith

-- what all_below tests
test_at : (n : ℕ) (p : ℕ → Bool) → all_below n p ≡ true → (i : ℕ) → i < n → p i ≡ true
test_at zero p h i l = absurd (omega arith)
test_at (suc n) p h i l = elim (below_step n i l) [
  | inl e ↦ ap p e ∙ (and_parts _ _ h).0
  | inr k ↦ test_at n p (and_parts _ _ h).1 i k
]

-- ---- the table is closed under meeting

is_closed : all_below TABLE_LEN (λ a. all_below TABLE_LEN (λ b. nat_lt (meeting_place a b) TABLE_LEN)) ≡ true
unfolding meeting meeting_place
is_closed = refl

-- the meeting of two entries has a place
pub meeting_in_table : (a b : ℕ) → a < TABLE_LEN → b < TABLE_LEN → meeting_place a b < TABLE_LEN
meeting_in_table a b l k = ltb-true _ _ (test_at TABLE_LEN (λ d. nat_lt (meeting_place a d) TABLE_LEN)
    (test_at TABLE_LEN (λ c. all_below TABLE_LEN (λ d. nat_lt (meeting_place c d) TABLE_LEN)) is_closed a l) b k)

-- the place of the first entry that an extent is the same as
extent_at_place : (x : Extent) (p : ℕ) → p ≡ position_or_len (λ entry. same_extent (extent entry) x) UPGRADING_TABLE → p < TABLE_LEN → extent_at p ≡ x
extent_at_place x p e l =
    let first = λ (entry : Entry). same_extent (extent entry) x in
    let passes = passes_at_first first UPGRADING_TABLE Nil (subst (λ k. k < TABLE_LEN) e l) in
    let is : slice_get UPGRADING_TABLE p ≡ Some (get_or UPGRADING_TABLE (position_or_len first UPGRADING_TABLE) Nil) =
    slice_get-get_or UPGRADING_TABLE p Nil l ∙ ap (λ k. Some (get_or UPGRADING_TABLE k Nil)) e in
    ap extent_of_entry is ∙ same_extents _ x passes

-- it is what both hold
extent_of_meeting : (a b : ℕ) → meeting_place a b < TABLE_LEN → extent_at (meeting_place a b) ≡ meeting (extent_at a) (extent_at b)
unfolding meeting_place
extent_of_meeting a b l = extent_at_place (meeting (extent_at a) (extent_at b)) _ refl l

pub is_meeting : (a b : ℕ) → a < TABLE_LEN → b < TABLE_LEN → IsMeeting a b (meeting_place a b)
is_meeting a b l k (node marks s) =
    let e = extent_of_meeting a b (meeting_in_table a b l k) in
    let m = subst (λ x. IsWithin x s ↔ (IsWithin (extent_at a) s × IsWithin (extent_at b) s)) (sym e) (meeting_holds (extent_at a) (extent_at b) s) in
    let c = holds_by_extent (meeting_place a b) marks s in
    let left = holds_by_extent a marks s in
    let right = holds_by_extent b marks s in (
      λ h. let both = m.0 (c.0 h) in (left.1 both.0, right.1 both.1),
      λ h. c.1 (m.1 (left.0 h.0, right.0 h.1)),
    )

-- ---- each entry stands before every entry that properly holds it

-- some objects at the ends of an extent, by their shapes
abbrev ends : Extent → List LispShape
ends nothing = []
ends (integers lo hi) = number lo 1 ∷ number hi 1 ∷ []
ends (characters limit) = character (limit - 1) ∷ []
ends (one_kind k) = opaque k ∷ []
ends everything = array 0 false [] ∷ []

-- the shape is that of an object
abbrev is_valid : LispShape → Bool
is_valid (number n d) = d == 1
is_valid (character c) = scalar c
is_valid (opaque k) = true
is_valid (array c simple dims) = nat_lt c TABLE_LEN
is_valid s = false

-- integers are in lowest terms
lowest_terms : (n : ℕ) → IsGcd n 1 1
lowest_terms n = IsGcd-from_mod n 1 1 (IsGcd-from_zero 1 (n % 1) (omega arith))

shape_valid : (structures : Structures) (s : LispShape) → is_valid s ≡ true → IsShape structures s
shape_valid structures (number n d) h =
    let e : d ≡ 1 = (Decides-eqb d 1).0 h in
    subst (λ k. (0 < k) × IsGcd (unsigned_abs n) k 1) (sym e) (omega arith, lowest_terms (unsigned_abs n))
shape_valid structures (character c) h = h
shape_valid structures (opaque k) h = tt
shape_valid structures (array c simple dims) h = ltb-true _ _ h
shape_valid structures (symbol s) h = absurd (cc)
shape_valid structures (pair x y) h = absurd (cc)
shape_valid structures (structure s) h = absurd (cc)

-- some end of the entry at i is outside the entry at j
abbrev is_apart : ℕ → ℕ → Bool
is_apart i j = list_any (λ s. is_valid s && (has (extent_at i) s && not (has (extent_at j) s))) (ends (extent_at i))

is_sorted : all_below TABLE_LEN (λ i. all_below i (λ j. is_apart i j)) ≡ true
is_sorted = refl

-- what no element passes
none_passes : {X : Type 0} (p : X → Bool) (xs : List X) → ((x : X) → p x ≡ false) → list_any p xs ≡ false
none_passes p [] h = refl
none_passes p (x ∷ xs) h = let e = h x in let f = none_passes p xs h in grind arith

-- none is in the one and outside the other
none_outside : (v h k : Bool) → (v ≡ true → h ≡ true → k ≡ true) → (v && (h && not k)) ≡ false
none_outside true true k f = ap not (f refl refl)
none_outside true false k f = refl
none_outside false h k f = refl

-- one place is not behind another, or it is
not_behind : (i j : ℕ) → (j < i → ⊥) → i ≤ j
not_behind i j h = omega arith

-- an entry that lies within another stands no later
pub ordered : (structures : Structures) (i j : ℕ) → i < TABLE_LEN → LiesWithin structures i j → i ≤ j
ordered structures i j l within = not_behind i j (λ k.
    let apart : is_apart i j ≡ true = test_at i (λ b. is_apart i b) (test_at TABLE_LEN (λ a. all_below a (λ b. is_apart a b)) is_sorted i l) j k in
    let together : is_apart i j ≡ false = none_passes _ (ends (extent_at i)) (λ s. none_outside (is_valid s) (has (extent_at i) s) (has (extent_at j) s)
    (λ v h. (Decides-has (extent_at j) s).1 ((holds_by_extent j [] s).0 (within (node [] s) (tt, shape_valid structures s v) ((holds_by_extent i [] s).1 ((Decides-has (extent_at i) s).0 h)))))) in
    true≢false (sym apart ∙ together))

-- the less of two places
less : (a b : ℕ) → a ≤ b → (a ≡ b → ⊥) → a < b
less a b l h = omega arith

-- one that lies properly within it stands before it
pub properly_before : (structures : Structures) (a b : ℕ) → a < TABLE_LEN → LiesProperlyWithin structures a b → a < b
properly_before structures a b l within = less a b (ordered structures a b l within.0)
    (λ e. within.1 (subst (λ c. LiesWithin structures c a) e (λ o is h. h)))

-- two that lie within each other are one
pub one_place : (structures : Structures) (a b : ℕ) → a < TABLE_LEN → b < TABLE_LEN → LiesWithin structures a b → LiesWithin structures b a → a ≡ b
one_place structures a b l k p q =
    let e = ordered structures a b l p in
    let f = ordered structures b a k q in
    omega arith

-- what the entry at a place within the table holds
pub extent_at_index : (c : ℕ) (d : Entry) → c < TABLE_LEN → extent (get_or UPGRADING_TABLE c d) ≡ extent_at c
extent_at_index c d l = sym (ap extent_of_entry (slice_get-get_or UPGRADING_TABLE c d l))

-- the place that is found for what both hold
pub place_of_meeting : (a b p : ℕ) (x y m : Extent) → x ≡ extent_at a → y ≡ extent_at b → m ≡ meeting x y → p ≡ position_or_len (λ entry. same_extent (extent entry) m) UPGRADING_TABLE → p ≡ meeting_place a b
unfolding meeting_place
place_of_meeting a b p x y m e f g h =
    let is : m ≡ meeting (extent_at a) (extent_at b) = g ∙ ap (λ z. meeting z y) e ∙ ap (meeting (extent_at a)) f in
    h ∙ ap (λ z. position_or_len (λ entry. same_extent (extent entry) z) UPGRADING_TABLE) is
