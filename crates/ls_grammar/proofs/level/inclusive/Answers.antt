use Rattle.std.proofs.Common.{◌∙◌, arith, ap}
use Rattle.std.specs.Int.{w128}
use Rattle.std.proofs.lemmas.Int.{to_z-of_z}
use Rattle.ls_object.specs.declared.rat.Rat.{Rat}
use Rattle.ls_spec.specs.declared.spec.Bound.TheVariants.{Incl}
use Rattle.ls_grammar.proofs.NumberLemmas.{whole_is}
use Rattle.ls_grammar.proofs.level.inclusive.Goals as goal

pub returns : goal.returns
returns c =
    ap (λ (r : Rat). Incl r)
    (whole_is c.integer.result c.args.value (c.integer.ensures.num ∙ to_z-of_z w128 c.args.value c.ranges.value) c.integer.ensures.den (omega (arith, c.requires)))
