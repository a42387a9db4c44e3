use Rattle.std.proofs.Common.{◌≡◌, ◌++◌, map, take}
use Rattle.ls_object.specs.Meaning.{lisp_object}
use Rattle.ls_arrays.specs.steps.Representatives as rep
use Rattle.ls_arrays.proofs.regions.push_arrays.Given as goal

abbrev pub invariant-loop-numbers : goal.invariant-loop-numbers
invariant-loop-numbers l = map lisp_object l.out ≡ map lisp_object l.initial.out ++ rep.with_dims (take l.numbers-index l.dims) l.elem.index l.simple
