-- Objects as the cars, or the cdrs, of conses.
use Rattle.std.specs.Prelude.{ℕ, ◌≡◌, Bool, false, List, [], ◌∷◌, map, length, slice_get, Some}
use Rattle.std.specs.List.{AllByRecursion, flat_map}
use Rattle.ls_object.specs.Universe.{LispObject, IsPlain}
use Rattle.ls_spec.specs.Specifier.{Specifier}
use Rattle.ls_spec.specs.Atoms.{leaves}
use Rattle.ls_spec.specs.Truth.{Learnt, holds}
use Rattle.ls_lists.specs.Sides.{car_of, cdr_of}
use Rattle.ls_cells.specs.declared.rows.Row.{Row}
use Rattle.ls_cells.specs.declared.side.Side.{Side}
use Rattle.ls_cells.specs.declared.side.Side.TheVariants as side_variant
use Rattle.ls_cells.specs.Signs.{at}
use Rattle.ls_cells.specs.Rows.{origin_object, signs_of}
use Rattle.ls_cells.specs.Cells.{signs_at}
use Rattle.ls_cells.specs.Values.{AreAmong}

-- the part of a CONS on a side
abbrev pub part_of : Side → Specifier → List Specifier
part_of side_variant.Car s = car_of s
part_of side_variant.Cdr s = cdr_of s

-- whether the object belongs to the part, if there is one
abbrev pub part_holds : Learnt → List Specifier → LispObject → Bool
part_holds learnt [] o = false
part_holds learnt (s ∷ ss) o = holds learnt s o

-- for each atom whether a cons with the object on that side may belong to it
abbrev pub parts_at : Learnt → Side → List Specifier → LispObject → List Bool
parts_at learnt on atoms o = map (λ s. part_holds learnt (part_of on s) o) atoms

-- the leaves of the parts of the atoms are among those
abbrev pub ArePartsAmong : Side → List Specifier → List Specifier → Type 0
ArePartsAmong on those atoms = AllByRecursion (λ s. AreAmong those (flat_map leaves (part_of on s))) atoms

-- the value at each of these rows is whether the row's object belongs to the part
abbrev pub IsPartColumn : List Specifier → List Row → List Specifier → List Bool → Type 0
IsPartColumn those rows parts c =
    (learnt : Learnt) (o : LispObject) (j : ℕ) → AreAmong those (flat_map leaves parts)
    → slice_get (signs_of rows) j ≡ Some (signs_at learnt those o) → at c j ≡ part_holds learnt parts o

-- one for each atom
abbrev pub ArePartColumns : Side → List Specifier → List Row → List Specifier → List (List Bool) → Type 0
ArePartColumns on those rows [] [] = Unit {0}
ArePartColumns on those rows (s ∷ atoms) (c ∷ columns) =
    IsPartColumn those rows (part_of on s) c × ArePartColumns on those rows atoms columns
ArePartColumns on those rows _ _ = ⊥

-- the row of an object made into the truth values that it gives to the atoms on its side
pub record IsHalf (on : Side) (those atoms : List Specifier) (row half : Row) : Type 0 where
  pub object : origin_object half.origin.value ≡ origin_object row.origin.value
  pub plain : IsPlain (origin_object half.origin.value)
  pub long : length half.signs ≡ length atoms
  pub signs : (learnt : Learnt) (o : LispObject) → ArePartsAmong on those atoms → row.signs ≡ signs_at learnt those o
      → half.signs ≡ parts_at learnt on atoms o

-- one for each row
abbrev pub AreHalves : Side → List Specifier → List Specifier → List Row → List Row → Type 0
AreHalves on those atoms [] [] = Unit {0}
AreHalves on those atoms (row ∷ rows) (half ∷ halves) =
    IsHalf on those atoms row half × AreHalves on those atoms rows halves
AreHalves on those atoms _ _ = ⊥
