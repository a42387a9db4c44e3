use Rattle.std.proofs.Common.{◌≡◌, drop}
use Rattle.ls_object.specs.Universe.{node}
use Rattle.ls_object.specs.Meaning.{lisp_shape}
use Rattle.ls_spec.specs.Meaning.{specifiers}
use Rattle.ls_spec.specs.Truth.{all_hold, some_holds, nothing_learnt}
use Rattle.ls_spec.proofs.membership.+holds.Given as goal

abbrev pub invariant-all_hold-loop-part : goal.invariant-all_hold-loop-part
invariant-all_hold-loop-part l =
    all_hold nothing_learnt (specifiers (drop l.part-index l.parts)) (node l.marks (lisp_shape l.shape)) ≡ all_hold nothing_learnt (specifiers l.parts) (node l.marks (lisp_shape l.shape))

abbrev pub invariant-some_holds-loop-part : goal.invariant-some_holds-loop-part
invariant-some_holds-loop-part l =
    some_holds nothing_learnt (specifiers (drop l.part-index l.parts)) (node l.marks (lisp_shape l.shape)) ≡ some_holds nothing_learnt (specifiers l.parts) (node l.marks (lisp_shape l.shape))
