-- The entries of the upgrading table, in order, each with what it holds.
use Rattle.std.specs.Prelude.{pos, negsuc, List, [], ◌∷◌}
use Rattle.ls_object.specs.declared.kind.Kind.TheVariants.{SingleFloat, DoubleFloat}
use Rattle.ls_object.specs.declared.table.Entry.{Entry}
use Rattle.ls_object.specs.declared.table.Entry.TheVariants.{Nil, Bit, UnsignedByte, SignedByte, BaseChar, Character, OfKind, T}
use Rattle.ls_object.specs.Table.{Extent, nothing, integers, characters, one_kind, everything}

abbrev pub entries_and_extents : List (Entry × Extent)
entries_and_extents =
    (Nil, nothing)
    ∷ (Bit, integers (pos 0) (pos 1))
    ∷ (UnsignedByte 7, integers (pos 0) (pos 127))
    ∷ (SignedByte 8, integers (negsuc 127) (pos 127))
    ∷ (UnsignedByte 8, integers (pos 0) (pos 255))
    ∷ (UnsignedByte 15, integers (pos 0) (pos 32767))
    ∷ (SignedByte 16, integers (negsuc 32767) (pos 32767))
    ∷ (UnsignedByte 16, integers (pos 0) (pos 65535))
    ∷ (UnsignedByte 31, integers (pos 0) (pos 2147483647))
    ∷ (SignedByte 32, integers (negsuc 2147483647) (pos 2147483647))
    ∷ (UnsignedByte 32, integers (pos 0) (pos 4294967295))
    ∷ (UnsignedByte 63, integers (pos 0) (pos 9223372036854775807))
    ∷ (SignedByte 64, integers (negsuc 9223372036854775807) (pos 9223372036854775807))
    ∷ (UnsignedByte 64, integers (pos 0) (pos 18446744073709551615))
    ∷ (BaseChar, characters 128)
    ∷ (Character, characters 1114112)
    ∷ (OfKind SingleFloat, one_kind SingleFloat)
    ∷ (OfKind DoubleFloat, one_kind DoubleFloat)
    ∷ (T, everything)
    ∷ []
