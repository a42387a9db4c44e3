use Rattle.std.proofs.Common.{◌≡◌, map, take}
use Rattle.ls_spec.specs.Meaning.{specifier}
use Rattle.ls_spec.specs.Approximation.{bounded}
use Rattle.ls_spec.proofs.+bounded.Given as goal

abbrev pub invariant-bounds::bounded_all-loop-spec : goal.invariant-bounds::bounded_all-loop-spec
invariant-bounds::bounded_all-loop-spec l = map specifier l.bounded ≡ map (λ s. bounded l.upper (specifier s)) (take l.spec-index l.specs)
