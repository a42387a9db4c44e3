-- The widths of entries whose bounds are made as numbers.
use Rattle.std.specs.Prelude.{◌≤◌}
use Rattle.ls_object.specs.declared.table.Entry.{Entry}
use Rattle.ls_object.specs.declared.table.Entry.TheVariants.{Nil, Bit, UnsignedByte, SignedByte, BaseChar, Character, OfKind, T}

-- the entry has at most 64 bits, and one for the sign if it has a sign
abbrev pub HasHeldWidth : Entry → Type 0
HasHeldWidth (UnsignedByte bits) = bits ≤ 64
HasHeldWidth (SignedByte bits) = (1 ≤ bits) × (bits ≤ 64)
HasHeldWidth Nil = Unit {0}
HasHeldWidth Bit = Unit {0}
HasHeldWidth BaseChar = Unit {0}
HasHeldWidth Character = Unit {0}
HasHeldWidth (OfKind k) = Unit {0}
HasHeldWidth T = Unit {0}
