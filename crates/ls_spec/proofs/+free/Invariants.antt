use Rattle.std.proofs.Common.{◌≡◌, drop}
use Rattle.ls_spec.specs.Meaning.{specifiers}
use Rattle.ls_spec.specs.Approximation.{some_has_free_predicate}
use Rattle.ls_spec.proofs.+free.Given as goal

abbrev pub invariant-bounds::some_has_free_predicate-loop-spec : goal.invariant-bounds::some_has_free_predicate-loop-spec
invariant-bounds::some_has_free_predicate-loop-spec l =
    some_has_free_predicate (specifiers (drop l.spec-index l.specs)) ≡ some_has_free_predicate (specifiers l.specs)
