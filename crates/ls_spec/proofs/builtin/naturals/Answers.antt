use Rattle.std.proofs.Common.{pos, ap, ◌∙◌, lit<}
use Rattle.ls_spec.specs.declared.spec.Bound.{Bound}
use Rattle.ls_spec.specs.declared.spec.Bound.TheVariants.{Free}
use Rattle.ls_spec.specs.declared.spec.RangeKind.TheVariants.{Integer}
use Rattle.ls_spec.specs.Specifier.{range_of}
use Rattle.ls_spec.proofs.BuiltinLemmas.{specifier-Range, bound_at}
use Rattle.ls_spec.proofs.builtin.naturals.Goals as goal

pub returns : goal.returns
returns c =
    let lo = bound_at c.integer.result (pos 0) (lit< tt) c.integer.ensures.num c.integer.ensures.den in
    specifier-Range _ _ _ ∙ ap (λ (bound : Bound). range_of Integer bound Free) lo
