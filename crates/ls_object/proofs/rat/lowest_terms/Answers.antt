use Rattle.std.proofs.lemmas.Bool.{true≢false}
use Rattle.std.proofs.Math.Nat.{pos_of_dvd_of_pos}
use Rattle.ls_object.proofs.GcdLemmas.{IsGcd-reduced, IsReducedSize-quotients, mul-quotient, quotient_positive, within_limits}
use Rattle.ls_object.proofs.rat.lowest_terms.Goals as goal

pub invariant_of-result-clause-positive : goal.invariant_of-result-clause-positive
invariant_of-result-clause-positive c =
    let g = c.gcd-common.result in
    let h = c.gcd-common.ensures in
    quotient_positive c.args.den g _ c.requires (mul-quotient c.args.den g (pos_of_dvd_of_pos h.1 c.requires) h.1)

pub invariant_of-result-clause-lowest : goal.invariant_of-result-clause-lowest
invariant_of-result-clause-lowest c =
    let g = c.gcd-common.result in
    let h = c.gcd-common.ensures in
    let p = pos_of_dvd_of_pos h.1 c.requires in
    IsGcd-reduced c.args.size c.args.den g _ _ p (mul-quotient c.args.size g p h.0) (mul-quotient c.args.den g p h.1) h

pub returns-clause-none : goal.returns-clause-none
returns-clause-none c =
    (λ e. absurd (true≢false e), λ past. absurd (within_limits _ _ _ c.gcd-common.ensures c.if-size-ge-NUMERATOR_LIMIT.false c.if-den-gt-DENOMINATOR_LIMIT.false past))

pub returns-clause-some : goal.returns-clause-some
returns-clause-some c = IsReducedSize-quotients c.args.size c.args.den c.gcd-common.result c.requires c.gcd-common.ensures
