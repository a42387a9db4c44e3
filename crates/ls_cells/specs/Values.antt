-- Formulas that have the value of a specifier at each row.
use Rattle.std.specs.Prelude.{◌≡◌, List, [], ◌∷◌}
use Rattle.std.specs.List.{AllByRecursion, Contains}
use Rattle.ls_object.specs.Universe.{LispObject}
use Rattle.ls_spec.specs.Specifier.{Specifier}
use Rattle.ls_spec.specs.Atoms.{leaves}
use Rattle.ls_spec.specs.Truth.{Learnt, holds}
use Rattle.ls_cells.specs.declared.formula.Formula.{Formula}
use Rattle.ls_cells.specs.Formulas.{holds_at}
use Rattle.ls_cells.specs.Cells.{signs_at}

-- each of the specifiers is one of the atoms
abbrev pub AreAmong : List Specifier → List Specifier → Type 0
AreAmong atoms list = AllByRecursion (Contains atoms) list

-- where the leaves of the specifier are among the atoms, the formula's value at an object's row is whether the object
-- belongs to the specifier
abbrev pub IsFormulaOf : List Specifier → Specifier → Formula → Type 0
IsFormulaOf atoms s f =
    (learnt : Learnt) (o : LispObject) → AreAmong atoms (leaves s) → holds_at f (signs_at learnt atoms o) ≡ holds learnt s o

-- one by one
abbrev pub AreFormulasOf : List Specifier → List Specifier → List Formula → Type 0
AreFormulasOf atoms [] [] = Unit {0}
AreFormulasOf atoms (s ∷ ss) (f ∷ fs) = IsFormulaOf atoms s f × AreFormulasOf atoms ss fs
AreFormulasOf atoms _ _ = ⊥
