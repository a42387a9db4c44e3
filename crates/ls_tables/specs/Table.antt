-- What the upgrading table says of its places: which integers the entry there holds, and how entries lie to one
-- another (15.1.2.1).
use Rattle.std.specs.Prelude.{ℕ, ℤ, ◌↔◌, Option, Some, None, slice_get}
use Rattle.ls_object.specs.declared.table.Entry.{Entry}
use Rattle.ls_object.specs.declared.table.TheConstants.{UPGRADING_TABLE}
use Rattle.ls_object.specs.Universe.{LispObject, Structures, IsObject}
use Rattle.ls_object.specs.Table.{Extent, nothing, integers, characters, one_kind, everything, extent, Holds}

-- what the entry holds, where there is one
abbrev pub extent_of_entry : Option Entry → Extent
extent_of_entry None = nothing
extent_of_entry (Some entry) = extent entry

-- what the entry at a place of the table holds
abbrev pub extent_at : ℕ → Extent
extent_at code = extent_of_entry (slice_get UPGRADING_TABLE code)

-- the least and the greatest integer of an extent of integers
abbrev pub integer_range : Extent → Option (ℤ × ℤ)
integer_range (integers lo hi) = Some (lo, hi)
integer_range nothing = None
integer_range (characters limit) = None
integer_range (one_kind k) = None
integer_range everything = None

-- the entry at the third place holds exactly what those at the first and the second both hold
abbrev pub IsMeeting : ℕ → ℕ → ℕ → Type 0
IsMeeting a b c = (o : LispObject) → Holds c o ↔ (Holds a o × Holds b o)

-- every object that the entry at the first place holds is held by the one at the second
abbrev pub LiesWithin : Structures → ℕ → ℕ → Type 0
LiesWithin structures a b = (o : LispObject) → IsObject structures o → Holds a o → Holds b o

-- so it is, but not the other way round
abbrev pub LiesProperlyWithin : Structures → ℕ → ℕ → Type 0
LiesProperlyWithin structures a b = LiesWithin structures a b × (LiesWithin structures b a → ⊥)
