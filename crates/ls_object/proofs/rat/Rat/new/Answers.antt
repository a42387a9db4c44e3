use Rattle.std.proofs.Common.{ℕ, ℤ, unsigned_abs, ◌≡◌, ◌<◌, inl, inr, refl, sym, subst, ap, ◌∙◌, arith, to_z, of_z}
use Rattle.std.specs.Int.{IsGcd}
use Rattle.std.proofs.lemmas.Bool.{true≢false}
use Rattle.std.proofs.lemmas.Int.{to_z-of_z, fits_signed_from_abs}
use mir.Syntax.{w128}
use Rattle.ls_object.specs.Ratio.{PassesLimits}
use Rattle.ls_object.specs.declared.rat.TheConstants.{NUMERATOR_LIMIT}
use Rattle.ls_object.proofs.rat.Rat.new.Goals as goal

-- a numerator within the limit is kept by its representation
kept : (z : ℤ) (size : ℕ) → unsigned_abs z ≡ size → size < NUMERATOR_LIMIT → to_z w128 (of_z w128 z) ≡ z
kept z size e h = to_z-of_z w128 z (fits_signed_from_abs w128 z (omega arith))

pub returns-in_err-reduced-clause-none : goal.returns-in_err-reduced-clause-none
returns-in_err-reduced-clause-none c =
    let e = c.unsigned_abs.ensures.value ∙ ap unsigned_abs (to_z-of_z w128 c.args.num c.ranges.num) in
    let past = c.in_err-reduced.ensures.none.0 refl in
    (λ h. inr (subst (λ size. PassesLimits size c.args.den) e past), λ h. rw c.from_residual.ensures refl)

pub invariant_of-result-clause-lowest : goal.invariant_of-result-clause-lowest
invariant_of-result-clause-lowest c =
    let r = c.in_ok-reduced.reduced in
    let size = c.with_sign_of.ensures.size in
    subst (λ n. IsGcd n r.den 1) (sym (ap unsigned_abs (kept c.with_sign_of.result r.size size r.size_fits) ∙ size)) r.lowest

pub invariant_of-result-clause-num_fits : goal.invariant_of-result-clause-num_fits
invariant_of-result-clause-num_fits c =
    let r = c.in_ok-reduced.reduced in
    let size = c.with_sign_of.ensures.size in
    subst (λ n. n < NUMERATOR_LIMIT) (sym (ap unsigned_abs (kept c.with_sign_of.result r.size size r.size_fits) ∙ size)) r.size_fits

pub returns-clause-none : goal.returns-clause-none
returns-clause-none c =
    let e = c.unsigned_abs.ensures.value ∙ ap unsigned_abs (to_z-of_z w128 c.args.num c.ranges.num) in (
      λ h. absurd (true≢false h),
      λ h. elim h [ inl zero ↦ absurd (omega arith) | inr past ↦ c.in_ok-reduced.ensures.none.1 (subst (λ size. PassesLimits size c.args.den) (sym e) past) ],
    )

pub returns-clause-some : goal.returns-clause-some
returns-clause-some c =
    let r = c.in_ok-reduced.reduced in
    let s = c.in_ok-reduced.ensures.some in
    let given = to_z-of_z w128 c.args.num c.ranges.num in
    let e = c.unsigned_abs.ensures.value in
    let num = sym given ∙ c.with_sign_of.ensures.sign s.0 (sym e ∙ s.1.1) in
    rw (kept c.with_sign_of.result r.size c.with_sign_of.ensures.size r.size_fits)
    (s.0, (subst (λ size. IsGcd size c.args.den s.0) (e ∙ ap unsigned_abs given) s.1.0, num, s.1.2))
