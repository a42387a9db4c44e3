use Rattle.std.proofs.Common.{◌≤◌, ◌+◌, ◌⊎◌, map, length, All, Contains, List, Bool}
use Rattle.std.specs.List.{AllByRecursion}
use Rattle.ls_object.specs.Universe.{LispObject, Structures, IsObject}
use Rattle.ls_object.specs.Meaning.{lisp_object}
use Rattle.ls_spec.specs.Meaning.{specifier}
use Rattle.ls_spec.specs.Regions.{IsPlainOf, IsRepresented}
use Rattle.ls_spec.specs.Truth.{Learnt, IsLearnt}
use Rattle.ls_cells.specs.Rows.{signs_of, AreLong}
use Rattle.ls_cells.specs.Cells.{signs_at, bare, HasObject}
use Rattle.ls_cells.proofs.classes.push_reps.Given as goal

abbrev pub invariant-loop-object : goal.invariant-loop-object
invariant-loop-object g l = record {
  rises : l.initial.steps ≤ l.steps;
  most : l.steps + length l.reps ≤ l.initial.steps + length l.initial.reps;
  fewer : length l.rows + l.initial.steps ≤ length l.initial.rows + l.steps;
  long : AreLong (length l.atoms) l.initial.rows → AreLong (length l.atoms) l.rows;
  plain : AllByRecursion (λ r. IsPlainOf (g.R.Regions.IsOfClass l.regions) (lisp_object r)) l.reps;
  objects : (structures : Structures) → g.R.Regions.IsOver l.regions structures → AllByRecursion (λ r. IsObject structures (lisp_object r)) l.reps;
  kept : (structures : Structures) (learnt : Learnt) → g.R.Regions.IsOver l.regions structures → All (IsLearnt structures learnt) (map specifier l.atoms)
      → (signs : List Bool) → Contains (signs_of l.initial.rows) signs → Contains (signs_of l.rows) signs;
  each : (structures : Structures) (learnt : Learnt) → g.R.Regions.IsOver l.regions structures → All (IsLearnt structures learnt) (map specifier l.atoms)
      → All (HasObject structures learnt (map specifier l.atoms)) l.initial.rows → All (HasObject structures learnt (map specifier l.atoms)) l.rows;
  all : (structures : Structures) (learnt : Learnt) → g.R.Regions.IsOver l.regions structures → All (IsLearnt structures learnt) (map specifier l.atoms)
      → (o : LispObject) → IsObject structures o → g.R.Regions.IsOfClass l.regions o
      → IsRepresented (g.R.Regions.IsIn structures) l.atoms l.reps o ⊎ Contains (signs_of l.rows) (signs_at learnt (map specifier l.atoms) (bare o));
}

abbrev pub decreases-loop-object : goal.decreases-loop-object
decreases-loop-object g l = length l.reps
