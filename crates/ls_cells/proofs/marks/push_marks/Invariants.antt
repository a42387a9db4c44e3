use Rattle.std.proofs.Common.{◌≡◌, ◌≤◌, ◌+◌, ◌*◌, List, length, map}
use Rattle.ls_object.specs.Universe.{Structures}
use Rattle.ls_spec.specs.Specifier.{Specifier}
use Rattle.ls_spec.specs.Meaning.{specifier}
use Rattle.ls_spec.specs.Atoms.{atoms_of}
use Rattle.ls_spec.specs.Truth.{Learnt}
use Rattle.ls_cells.specs.Cells.{AreBareRowsOf}
use Rattle.ls_cells.specs.Rows.{AreLong}
use Rattle.ls_cells.specs.steps.Marking.{AreRowsTo}
use Rattle.ls_cells.proofs.DoubleLemmas.{times}
use Rattle.ls_cells.proofs.marks.push_marks.Given as goal

abbrev pub invariant-loop-i : goal.invariant-loop-i
invariant-loop-i g l = record {
  rises : l.fn.steps ≤ l.steps;
  most : l.steps + length l.fn.rows ≤ l.fn.steps + times l.i (map specifier l.atoms) * length l.fn.rows;
  few : length l.rows ≤ times l.i (map specifier l.atoms) * length l.fn.rows;
  fewer : length l.rows + l.fn.steps ≤ length l.fn.rows + l.steps;
  long : AreLong (length l.atoms) l.rows;
  rows : (structures : Structures) (learnt : Learnt) (list : List Specifier) → map specifier l.atoms ≡ atoms_of list
      → AreBareRowsOf structures learnt (atoms_of list) l.fn.rows → AreRowsTo l.i structures learnt (atoms_of list) l.rows;
}
