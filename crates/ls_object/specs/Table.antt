-- What the entries of the upgrading table hold (15.1.2.1).
use Rattle.std.specs.Prelude.{◌≡◌, ℕ, ℤ, pos, ◌-◌, ◌*◌, ◌<◌, ◌^◌, ◌≤ℤ◌, ◌-ℤ◌, Option, Some, None, slice_get}
use Rattle.ls_object.specs.declared.kind.Kind.{Kind}
use Rattle.ls_object.specs.declared.table.Entry.{Entry}
use Rattle.ls_object.specs.declared.table.Entry.TheVariants.{Nil, Bit, UnsignedByte, SignedByte, BaseChar, Character, OfKind, T}
use Rattle.ls_object.specs.declared.table.TheConstants.{UPGRADING_TABLE}
use Rattle.ls_object.specs.Universe.{LispObject, node, LispShape, number, character, opaque}

-- a set of objects such as an entry holds; it asks for their shapes alone
pub data Extent : Type 0 where
  nothing : Extent
  -- the integers from the first to the second, with both
  integers : ℤ → ℤ → Extent
  -- the characters with a code below the number
  characters : ℕ → Extent
  -- the opaque objects of the kind
  one_kind : Kind → Extent
  everything : Extent

-- the shape is an integer from lo to hi
abbrev pub IsIntegerWithin : ℤ → ℤ → LispShape → Type 0
IsIntegerWithin lo hi (number n d) = (d ≡ 1) × (lo ≤ℤ n) × (n ≤ℤ hi)
IsIntegerWithin lo hi _ = ⊥

-- the shape is a character with a code below the limit
abbrev pub IsCharacterBelow : ℕ → LispShape → Type 0
IsCharacterBelow limit (character c) = c < limit
IsCharacterBelow limit _ = ⊥

-- the shape is an opaque object of the kind
abbrev pub IsOpaqueOf : Kind → LispShape → Type 0
IsOpaqueOf k (opaque j) = j ≡ k
IsOpaqueOf k _ = ⊥

-- the objects of this shape are in the extent
abbrev pub IsWithin : Extent → LispShape → Type 0
IsWithin nothing shape = ⊥
IsWithin (integers lo hi) shape = IsIntegerWithin lo hi shape
IsWithin (characters limit) shape = IsCharacterBelow limit shape
IsWithin (one_kind k) shape = IsOpaqueOf k shape
IsWithin everything shape = Unit {0}

-- what an entry holds; no character has a code of 17 * 2^16 or more
abbrev pub extent : Entry → Extent
extent Nil = nothing
extent Bit = integers (pos 0) (pos 1)
extent (UnsignedByte bits) = integers (pos 0) (pos (2 ^ bits) -ℤ pos 1)
extent (SignedByte bits) = integers (pos 0 -ℤ pos (2 ^ (bits - 1))) (pos (2 ^ (bits - 1)) -ℤ pos 1)
extent BaseChar = characters 128
extent Character = characters (17 * 2 ^ 16)
extent (OfKind k) = one_kind k
extent T = everything

-- the entry holds the objects of this shape
abbrev pub EntryHolds : Entry → LispShape → Type 0
EntryHolds entry shape = IsWithin (extent entry) shape

-- the object is held by the entry, where there is one
abbrev pub IsHeldBy : Option Entry → LispObject → Type 0
IsHeldBy None o = ⊥
IsHeldBy (Some entry) (node marks shape) = EntryHolds entry shape

-- the entry at a place of the table holds the object
abbrev pub Holds : ℕ → LispObject → Type 0
Holds code o = IsHeldBy (slice_get UPGRADING_TABLE code) o
