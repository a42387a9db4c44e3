use Rattle.std.proofs.Common.{◌≡◌, ◌++◌, [], map, take}
use Rattle.ls_object.specs.Universe.{node, opaque}
use Rattle.ls_object.specs.Meaning.{lisp_object}
use Rattle.ls_points.specs.steps.Kinds.{named_kinds}
use Rattle.ls_points.proofs.kinds.push_named.Given as goal

abbrev pub invariant-loop-atom : goal.invariant-loop-atom
invariant-loop-atom l = map lisp_object l.out ≡ map lisp_object l.initial.out ++ map (λ k. node [] (opaque k)) (named_kinds (take l.atom-index l.atoms))
