use Rattle.std.proofs.Common.{◌≡◌, ◌++◌, [], map, take}
use Rattle.ls_object.specs.Universe.{node, number}
use Rattle.ls_object.specs.Meaning.{lisp_object}
use Rattle.ls_points.proofs.numbers.push_numbers.Given as goal

abbrev pub invariant-loop-r : goal.invariant-loop-r
invariant-loop-r l = map lisp_object l.out ≡ map lisp_object l.initial.out ++ map (λ r. node [] (number r.num r.den)) (take l.r-index l.numbers)
