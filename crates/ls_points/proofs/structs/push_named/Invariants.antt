use Rattle.std.proofs.Common.{◌≡◌, ◌++◌, [], map, take}
use Rattle.std.specs.List.{AllByRecursion}
use Rattle.ls_object.specs.Universe.{node, structure, IsName}
use Rattle.ls_object.specs.Meaning.{lisp_object}
use Rattle.ls_points.specs.steps.Inheriting.{named_structures}
use Rattle.ls_points.proofs.structs.push_named.Given as goal

abbrev pub invariant-loop-atom : goal.invariant-loop-atom
invariant-loop-atom l = record {
  objects : map lisp_object l.out ≡ map lisp_object l.initial.out ++ map (λ s. node [] (structure s)) (named_structures (take l.atom-index l.atoms));
  names : AllByRecursion IsName (named_structures (take l.atom-index l.atoms));
}
