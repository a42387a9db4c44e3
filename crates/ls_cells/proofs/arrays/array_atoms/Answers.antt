use Rattle.std.proofs.Common.{◌+◌, List, sym, subst, take}
use Rattle.ls_arrays.specs.declared.atom.ArrayAtom.{ArrayAtom}
use Rattle.ls_intern.proofs.TreeLemmas.{below_at}
use Rattle.ls_intern.specs.Places.{specifiers_at}
use Rattle.ls_cells.specs.Codes.{codes_of, HasCodes}
use Rattle.ls_cells.specs.steps.Asking.{AreAskedBy}
use Rattle.ls_cells.proofs.AskingLemmas.{asked_more, all_at}
use Rattle.ls_cells.proofs.arrays.array_atoms.Goals as goal

pub array_atom-requires-clause-below : goal.array_atom-requires-clause-below
array_atom-requires-clause-below c = below_at _ _ _ _ c.requires.below c.loop-atom-test.true

pub array_atom-requires-clause-learnt : goal.array_atom-requires-clause-learnt
array_atom-requires-clause-learnt c = all_at (HasCodes (codes_of c.args.table.now c.args.codes.now)) c.args.table.now _ _ _ c.requires.learnt c.loop-atom-test.true

pub loop-atom-preserved : goal.loop-atom-preserved
loop-atom-preserved c structures are =
    subst (λ (asked : List ArrayAtom). AreAskedBy structures (specifiers_at c.args.table.now (take (c.loop-atom.atom-index + 1) c.args.atoms.now)) asked) (sym c.in_ok-push.ensures.ok)
    (asked_more structures c.args.table.now c.args.atoms.now c.loop-atom.atom-index 0 c.loop-atom.asked c.in_ok-array_atom.field-0
    c.loop-atom-test.true (c.loop-atom.invariant structures are) (c.in_ok-array_atom.ensures structures are))
