use Rattle.std.proofs.Common.{List, [], ◌∷◌}
use Rattle.std.specs.List.{AllByRecursion}
use Rattle.ls_spec.specs.declared.spec.Spec.{Spec}
use Rattle.ls_spec.specs.Meaning.{specifier, specifiers}
use Rattle.ls_spec.specs.SelfContained.{IsSelfContained, AreSelfContained}
use Rattle.ls_spec.proofs.ListLemmas.{AllByRecursion-more, AllByRecursion-whole}
use Rattle.ls_tests.proofs.simple.+simple.Goals as goal

-- each by itself, and all together
each-contained : (ss : List Spec) → AllByRecursion (λ s. IsSelfContained (specifier s)) ss → AreSelfContained (specifiers ss)
each-contained [] h = tt
each-contained (s ∷ ss) h = (h.0, each-contained ss h.1)

pub are_simple-loop-part-preserved : goal.are_simple-loop-part-preserved
are_simple-loop-part-preserved t c =
    AllByRecursion-more (λ s. IsSelfContained (specifier s)) c.args.parts.now c.loop-part.part-index c.part-item.result c.loop-part-test.true c.part-item.is c.loop-part.invariant (c.is_simple.ensures c.if-not-is_simple.false)

pub are_simple-returns : goal.are_simple-returns
are_simple-returns t c = λ _. each-contained c.args.parts.now (AllByRecursion-whole (λ s. IsSelfContained (specifier s)) c.args.parts.now c.loop-part.part-index c.loop-part-test.false c.loop-part.invariant)
