-- How the place of what two entries hold is found: their extents are met, and the place of the meeting is sought.
use Rattle.std.specs.Prelude.{ℕ, ℤ, Bool, true, false, ◌&&◌, ◌==◌, int_le, nat_le, if◌then◌else◌}
use Rattle.std.specs.List.{position_or_len}
use Rattle.std.specs.Ordering.{int_eq}
use Rattle.ls_object.specs.declared.kind.Kind.{Kind}
use Rattle.ls_object.specs.declared.table.TheConstants.{UPGRADING_TABLE}
use Rattle.ls_object.specs.ObjectText.{is_text, kind_text}
use Rattle.ls_object.specs.Table.{Extent, nothing, integers, characters, one_kind, everything, extent}
use Rattle.ls_tables.specs.declared.extent.Held.{Held}
use Rattle.ls_tables.specs.declared.extent.Held.TheVariants as held
use Rattle.ls_tables.specs.Table.{extent_at}

-- the extent that the program holds
abbrev pub extent_held : Held → Extent
extent_held held.Nothing = nothing
extent_held (held.Integers lo hi) = integers lo hi
extent_held (held.Characters limit) = characters limit
extent_held (held.OneKind k) = one_kind k
extent_held held.Everything = everything

-- the two kinds have one name
abbrev pub same_kind : Kind → Kind → Bool
same_kind j k = is_text (kind_text j) (kind_text k)

-- the integers from lo to hi, if there are any
abbrev pub integers_between : ℤ → ℤ → Extent
integers_between lo hi = if int_le lo hi then integers lo hi else nothing

-- what both extents hold
unfoldable pub meeting : Extent → Extent → Extent
meeting everything y = y
meeting x everything = x
meeting (integers a b) (integers c d) =
    integers_between (if int_le a c then c else a) (if int_le b d then b else d)
meeting (characters m) (characters n) = characters (if nat_le m n then m else n)
meeting (one_kind j) (one_kind k) = if same_kind j k then one_kind j else nothing
meeting x y = nothing

-- the extents are equal
abbrev pub same_extent : Extent → Extent → Bool
same_extent nothing nothing = true
same_extent everything everything = true
same_extent (integers a b) (integers c d) = int_eq a c && int_eq b d
same_extent (characters m) (characters n) = m == n
same_extent (one_kind j) (one_kind k) = same_kind j k
same_extent x y = false

-- the place of the first entry that holds what both entries hold
unfoldable pub meeting_place : ℕ → ℕ → ℕ
meeting_place a b =
    position_or_len (λ entry. same_extent (extent entry) (meeting (extent_at a) (extent_at b))) UPGRADING_TABLE
