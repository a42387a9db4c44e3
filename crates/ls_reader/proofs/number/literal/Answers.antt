use Rattle.std.proofs.Common.{◌+◌, suc, arith}
use Rattle.std.proofs.Math.Nat.{zero-lt-suc}
use Rattle.ls_reader.proofs.NumberLemmas.{literal_narrow, reduced_small, reduced_here}
use Rattle.ls_reader.proofs.number.literal.Goals as goal

pub invariant_of-result : goal.invariant_of-result
invariant_of-result c =
    let a = c.args in
    let r = c.in-Some.value in
    let h = reduced_here a.negative a.size a.below c.signed.result r c.signed.ensures c.if-size-gt-MAX_NUMERATOR.false c.in-Some.ensures.some in
    let small = reduced_small a.negative a.size (suc a.below) (zero-lt-suc a.below) r h c.if-size-gt-MAX_NUMERATOR.false (omega (arith, c.if-den-gt-MAX_DENOMINATOR.false)) in
    record { num_is_small = small.0; den_is_small = small.1 }

pub returns-in-Some : goal.returns-in-Some
returns-in-Some c =
    let a = c.args in
    let r = c.in-Some.value in
    let h = reduced_here a.negative a.size a.below c.signed.result r c.signed.ensures c.if-size-gt-MAX_NUMERATOR.false c.in-Some.ensures.some in
    literal_narrow a.negative a.size (suc a.below) (zero-lt-suc a.below) _ h c.if-size-gt-MAX_NUMERATOR.false (omega (arith, c.if-den-gt-MAX_DENOMINATOR.false))
