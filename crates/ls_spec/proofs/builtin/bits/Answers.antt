use Rattle.std.proofs.Common.{pos, ◌∙◌, lit<}
use Rattle.ls_spec.specs.declared.spec.RangeKind.TheVariants.{Integer}
use Rattle.ls_spec.specs.Specifier.{range_of}
use Rattle.ls_spec.proofs.BuiltinLemmas.{specifier-Range, bound_at}
use Rattle.ls_spec.proofs.builtin.bits.Goals as goal

pub returns : goal.returns
returns c =
    let lo = bound_at c.integer.result (pos 0) (lit< tt) c.integer.ensures.num c.integer.ensures.den in
    let hi = bound_at c.integer-2.result (pos 1) (lit< tt) c.integer-2.ensures.num c.integer-2.ensures.den in
    specifier-Range _ _ _ ∙ (λ i. range_of Integer (lo i) (hi i))
