use Rattle.std.proofs.Common.{take}
use Rattle.ls_intern.specs.Places.{specifiers_at}
use Rattle.ls_cells.specs.Kept.{structures_in, specifiers_in, codes_in, entries_in}
use Rattle.ls_decide.specs.steps.Learning.{HasTaken}
use Rattle.ls_decide.proofs.upgrade.learn_all.Given as goal

-- the codes of the element types that were gone through are known
abbrev pub invariant-loop-element : goal.invariant-loop-element
invariant-loop-element g l =
    HasTaken (structures_in l.fn.store) (structures_in l.store) (specifiers_in l.fn.store) (specifiers_in l.store) (codes_in l.fn.store) (codes_in l.store)
    (entries_in l.fn.store) (entries_in l.store) l.fn.steps l.steps (specifiers_at (specifiers_in l.fn.store) (take l.element-index l.elements))
