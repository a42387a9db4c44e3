use Rattle.std.proofs.Common.{ℕ, ◌<◌}
use Rattle.ls_object.specs.Universe.{Structures}
use Rattle.ls_spec.specs.Inclusion.{IsIncluded}
use Rattle.ls_spec.specs.Entries.{code_specifier}
use Rattle.ls_spec.specs.Truth.{Learnt, IsLearnt}
use Rattle.ls_intern.specs.Places.{at, specifiers_at}
use Rattle.ls_cells.specs.Cells.{AreRowsOf}
use Rattle.ls_decide.proofs.upgrade.first_holding.Given as goal

-- no entry before this place holds the whole type
abbrev pub invariant-loop-place : goal.invariant-loop-place
invariant-loop-place l = (structures : Structures) (learnt : Learnt) → IsLearnt structures learnt (at l.table l.element)
    → AreRowsOf structures learnt (specifiers_at l.table l.cells.atoms) l.cells.rows
    → (b : ℕ) → b < l.place → IsIncluded structures (at l.table l.element) (code_specifier b) → ⊥
