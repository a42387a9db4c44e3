use Rattle.std.proofs.Common.{◌≡◌, ◌⊎◌, ◌<◌, ℕ, map, length, All}
use Rattle.ls_object.specs.Universe.{Structures, plain}
use Rattle.ls_object.specs.Meaning.{lisp_object}
use Rattle.ls_spec.specs.Meaning.{specifier}
use Rattle.ls_spec.specs.Truth.{Learnt, IsLearnt}
use Rattle.ls_cells.specs.Signs.{at}
use Rattle.ls_cells.specs.Cells.{signs_at}
use Rattle.ls_cells.proofs.IndexLemmas.{IsFrom}
use Rattle.ls_cells.proofs.classes.signs_of_object.Given as goal

abbrev pub invariant-loop-place : goal.invariant-loop-place
invariant-loop-place g l = record {
  long : length l.signs ≡ length l.fn.atoms;
  right : (structures : Structures) (learnt : Learnt) → g.R.Regions.IsOver l.fn.regions structures → All (IsLearnt structures learnt) (map specifier l.fn.atoms)
      → (i : ℕ) → i < length l.fn.atoms
      → (at l.signs i ≡ at (signs_at learnt (map specifier l.fn.atoms) (plain (lisp_object l.fn.object))) i) ⊎ IsFrom l.fn.index.others l.place-index i;
}
