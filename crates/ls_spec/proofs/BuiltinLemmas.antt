-- What the specifiers that built-in names expand to stand for.
use Rattle.std.proofs.Common.{ℤ, ◌≡◌, ◌<◌, ◌^◌, ◌∙◌, sym, ap, Bool, Some}
use Rattle.std.specs.Prelude.{unsigned_abs}
use Rattle.ls_object.specs.declared.rat.Rat.{Rat}
use Rattle.ls_object.specs.Integers.{integer}
use Rattle.ls_object.proofs.RatLemmas.{is_the_integer}
use Rattle.ls_spec.specs.declared.spec.Bound.{Bound}
use Rattle.ls_spec.specs.declared.spec.Bound.TheVariants.{Incl}
use Rattle.ls_spec.specs.declared.spec.DimPattern.{DimPattern}
use Rattle.ls_spec.specs.declared.spec.Spec.{Spec}
use Rattle.ls_spec.specs.declared.spec.Spec.TheViews.{ArrayOf, rolls-ArrayOf, rolls-Range}
use Rattle.ls_spec.specs.declared.spec.Spec.TheBlock.{Range}
use Rattle.ls_spec.specs.declared.spec.Spec.TheOpen.{Spec-F}
use Rattle.ls_spec.specs.declared.spec.Spec.TheFolds.{fold-roll-Spec}
use Rattle.ls_spec.specs.declared.spec.RangeKind.{RangeKind}
use Rattle.ls_spec.specs.Specifier.{Specifier, array_of, range_of}
use Rattle.ls_spec.specs.Meaning.{specifier, specifier_step}

-- an array with an element type
pub specifier-ArrayOf : (e : Spec) (simple : Bool) (dims : DimPattern) → specifier (ArrayOf (Some e) simple dims) ≡ array_of (specifier e) simple dims
specifier-ArrayOf e simple dims = ap specifier (sym (rolls-ArrayOf (Some e) simple dims)) ∙ fold-roll-Spec Specifier specifier_step (Spec-F.ArrayOf (Some e) simple dims)

-- a range
pub specifier-Range : (k : RangeKind) (lo hi : Bound) → specifier (Range k lo hi) ≡ range_of k lo hi
specifier-Range k lo hi = ap specifier (sym (rolls-Range k lo hi)) ∙ fold-roll-Spec Specifier specifier_step (Spec-F.Range k lo hi)

-- a bound that is an integer, which belongs
pub bound_at : (r : Rat) (z : ℤ) (fits : unsigned_abs z < 2 ^ 66) → r.num ≡ z → r.den ≡ 1 → Incl r ≡ Incl (integer z fits)
bound_at r z fits p q = ap (λ (x : Rat). Incl x) (is_the_integer r z fits p q)
