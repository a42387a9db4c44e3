use Rattle.std.proofs.Common.{◌≡◌, ◌++◌, [], map, take}
use Rattle.std.specs.Char.{IsScalar}
use Rattle.std.specs.List.{AllByRecursion}
use Rattle.ls_object.specs.Universe.{node, character}
use Rattle.ls_object.specs.Meaning.{lisp_object}
use Rattle.ls_points.proofs.chars.push_chars.Given as goal

abbrev pub invariant-loop-c : goal.invariant-loop-c
invariant-loop-c l = record {
  objects : map lisp_object l.out ≡ map lisp_object l.initial.out ++ map (λ c. node [] (character c)) (take l.c-index l.chars);
  scalars : AllByRecursion IsScalar (take l.c-index l.chars);
}
