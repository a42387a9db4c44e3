use Rattle.std.proofs.Common.{◌+◌, ◌*◌, take}
use Rattle.ls_intern.specs.Places.{specifiers_at}
use Rattle.ls_intern.proofs.TreeLemmas.{above}
use Rattle.ls_cells.specs.Values.{AreFormulasOf}
use Rattle.ls_cells.proofs.value.+formula_of.Given as goal

abbrev pub decreases-formula_of : goal.decreases-formula_of
decreases-formula_of l = 2 * l.id + 1

abbrev pub decreases-formulas_of : goal.decreases-formulas_of
decreases-formulas_of l = 2 * above l.ids.now

abbrev pub invariant-formulas_of-loop-id : goal.invariant-formulas_of-loop-id
invariant-formulas_of-loop-id l = AreFormulasOf (specifiers_at l.table l.atoms) (specifiers_at l.table (take l.id-index l.ids)) l.formulas
