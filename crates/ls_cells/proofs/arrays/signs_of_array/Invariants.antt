use Rattle.std.proofs.Common.{◌≡◌, take}
use Rattle.ls_object.specs.Meaning.{lisp_object}
use Rattle.ls_cells.specs.steps.Asking.{asked_signs}
use Rattle.ls_cells.proofs.arrays.signs_of_array.Given as goal

abbrev pub invariant-loop-atom : goal.invariant-loop-atom
invariant-loop-atom l = l.signs ≡ asked_signs (take l.atom-index l.asked) (lisp_object l.object)
