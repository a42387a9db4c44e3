use Rattle.std.proofs.Common.{take}
use Rattle.std.specs.List.{AllByRecursion}
use Rattle.ls_spec.specs.Meaning.{specifier}
use Rattle.ls_spec.specs.SelfContained.{IsSelfContained}
use Rattle.ls_tests.proofs.simple.+simple.Given as goal

abbrev pub invariant-are_simple-loop-part : goal.invariant-are_simple-loop-part
invariant-are_simple-loop-part l = AllByRecursion (λ s. IsSelfContained (specifier s)) (take l.part-index l.parts)
