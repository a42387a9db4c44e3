use Rattle.std.proofs.Common.{◌∙◌, ap, map, take_all}
use Rattle.ls_spec.specs.Meaning.{specifier}
use Rattle.ls_spec.specs.Approximation.{bounded}
use Rattle.ls_spec.proofs.BoundLemmas.{bounded_all-each}
use Rattle.ls_spec.proofs.+bounded.Goals as goal

pub bounds::bounded_all-returns : goal.bounds::bounded_all-returns
bounds::bounded_all-returns t c =
    bounded_all-each c.args.upper c.loop-spec.bounded c.args.specs.now
    (c.loop-spec.invariant ∙ ap (map (λ s. bounded c.args.upper (specifier s))) (take_all c.loop-spec.spec-index c.args.specs.now c.loop-spec-test.false))
