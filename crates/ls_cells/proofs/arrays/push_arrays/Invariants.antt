use Rattle.std.proofs.Common.{◌≤◌, ◌+◌, ◌⊎◌, length, Contains, List, Bool, All}
use Rattle.std.specs.List.{AllByRecursion}
use Rattle.ls_object.specs.Universe.{LispObject, Structures, IsObject}
use Rattle.ls_object.specs.Meaning.{lisp_object}
use Rattle.ls_spec.specs.Specifier.{Specifier}
use Rattle.ls_spec.specs.Regions.{IsPlainOf, IsRepresented}
use Rattle.ls_spec.specs.Truth.{Learnt}
use Rattle.ls_arrays.specs.Arrays.{IsArray, IsIn}
use Rattle.ls_cells.specs.Cells.{signs_at, bare, HasObject}
use Rattle.ls_cells.specs.Rows.{signs_of, AreLong}
use Rattle.ls_cells.specs.steps.Asking.{AreSigns}
use Rattle.ls_cells.proofs.arrays.push_arrays.Given as goal

abbrev pub invariant-loop-object : goal.invariant-loop-object
invariant-loop-object g l = record {
  rises : l.initial.steps ≤ l.steps;
  most : l.steps + length l.reps ≤ l.initial.steps + length l.initial.reps;
  fewer : length l.rows + l.initial.steps ≤ length l.initial.rows + l.steps;
  long : AreLong (length l.asked) l.initial.rows → AreLong (length l.asked) l.rows;
  plain : AllByRecursion (λ r. IsPlainOf IsArray (lisp_object r)) l.reps;
  objects : (structures : Structures) → AllByRecursion (λ r. IsObject structures (lisp_object r)) l.reps;
  kept : (structures : Structures) (learnt : Learnt) (specs : List Specifier) → AreSigns structures learnt specs l.asked
      → (signs : List Bool) → Contains (signs_of l.initial.rows) signs → Contains (signs_of l.rows) signs;
  each : (structures : Structures) (learnt : Learnt) (specs : List Specifier) → AreSigns structures learnt specs l.asked
      → All (HasObject structures learnt specs) l.initial.rows → All (HasObject structures learnt specs) l.rows;
  all : (structures : Structures) (learnt : Learnt) (specs : List Specifier) → AreSigns structures learnt specs l.asked
      → (o : LispObject) → IsObject structures o → IsArray o → IsRepresented (IsIn structures) l.asked l.reps o ⊎ Contains (signs_of l.rows) (signs_at learnt specs (bare o));
}

abbrev pub decreases-loop-object : goal.decreases-loop-object
decreases-loop-object g l = length l.reps
