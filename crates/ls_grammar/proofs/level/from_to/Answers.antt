use Rattle.std.proofs.Common.{ℤ, ◌∙◌, ap}
use Rattle.std.specs.Int.{w128}
use Rattle.std.proofs.lemmas.Int.{to_z-of_z}
use Rattle.ls_spec.specs.declared.spec.Bound.TheVariants.{Incl}
use Rattle.ls_spec.specs.declared.spec.RangeKind.TheVariants.{Integer}
use Rattle.ls_spec.specs.Specifier.{range_of}
use Rattle.ls_spec.proofs.BuiltinLemmas.{specifier-Range}
use Rattle.ls_grammar.specs.Numbers.{whole}
use Rattle.ls_grammar.proofs.level.from_to.Goals as goal

pub returns : goal.returns
returns c =
    let lo = c.inclusive.ensures ∙ ap (λ (z : ℤ). Incl (whole z)) (to_z-of_z w128 c.args.lo c.ranges.lo) in
    let hi = c.inclusive-2.ensures ∙ ap (λ (z : ℤ). Incl (whole z)) (to_z-of_z w128 c.args.hi c.ranges.hi) in
    specifier-Range _ _ _ ∙ (λ i. range_of Integer (lo i) (hi i))
