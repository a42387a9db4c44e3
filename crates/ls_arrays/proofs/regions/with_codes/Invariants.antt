use Rattle.std.proofs.Common.{◌≡◌, map, take}
use Rattle.ls_object.specs.declared.table.Code.{Code}
use Rattle.ls_object.specs.Meaning.{lisp_object}
use Rattle.ls_arrays.specs.steps.Representatives as rep
use Rattle.ls_arrays.proofs.regions.with_codes.Given as goal

abbrev pub invariant-loop-code : goal.invariant-loop-code
invariant-loop-code l = map lisp_object l.out ≡ rep.with_codes l.dims (map (λ (c : Code). c.index) (take l.code-index l.codes))
