use Rattle.std.proofs.Common.{◌≡◌, ◌∙◌, sym, arith}
use Rattle.std.proofs.lemmas.Int.{ints}
use Rattle.ls_spec.specs.declared.spec.RangeKind.TheVariants.{Integer}
use Rattle.ls_spec.specs.Specifier.{range_of}
use Rattle.ls_spec.proofs.BuiltinLemmas.{specifier-Range, bound_at}
use Rattle.ls_spec.proofs.EntryLemmas.{integers_within-held}
use Rattle.ls_spec.proofs.codes.integers.Goals as goal

pub returns : goal.returns
returns c =
    let e : c.integer.result.num ≡ c.args.lo = grind (arith, ints) in
    let f : c.integer-2.result.num ≡ c.args.hi = grind (arith, ints) in
    let lo = bound_at c.integer.result c.args.lo c.requires.lo e c.integer.ensures.den in
    let hi = bound_at c.integer-2.result c.args.hi c.requires.hi f c.integer-2.ensures.den in
    specifier-Range _ _ _ ∙ (λ i. range_of Integer (lo i) (hi i)) ∙ sym (integers_within-held c.args.lo c.args.hi c.requires.lo c.requires.hi)
