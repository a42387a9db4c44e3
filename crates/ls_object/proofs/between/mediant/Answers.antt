use Rattle.std.proofs.Common.{ℕ, ℤ, ◌≡◌, ◌+◌, ◌<◌, ◌≤◌, ◌^◌, ◌+ℤ◌, inl, inr, false, subst, arith, to_z, of_z}
use Rattle.std.specs.Prelude.{unsigned_abs}
use Rattle.std.proofs.lemmas.Int.{ints}
use mir.Syntax.{w128}
use Rattle.ls_object.specs.Ratio.{IsLessRatio, PassesLimits, IsReduced}
use Rattle.ls_object.proofs.BetweenLemmas.{mediant_above, mediant_below, reduced_above, reduced_below, small_parts}
use Rattle.ls_object.proofs.between.mediant.Goals as goal

-- the sum of the numerators as the code has it
sum_is : (a b : ℤ) → unsigned_abs a ≤ 2 ^ 64 + 3 → unsigned_abs b ≤ 2 ^ 64 + 3 → to_z w128 (of_z w128 (to_z w128 (of_z w128 a) +ℤ to_z w128 (of_z w128 b))) ≡ a +ℤ b
sum_is a b p q = omega (arith, ints)

-- it is small
sum_fits : (a b : ℤ) → unsigned_abs a ≤ 2 ^ 64 + 3 → unsigned_abs b ≤ 2 ^ 64 + 3 → unsigned_abs (a +ℤ b) < 2 ^ 66
sum_fits a b p q = omega (arith, ints)

pub unreachable-requires : goal.unreachable-requires
unreachable-requires c =
    let a = c.args.lo.now in
    let b = c.args.hi.now in
    let past = c.in-None.ensures.none.0 (λ i. false) in
    elim past as (λ _. ⊥) [
      | inl zero ↦ absurd (omega (arith, a.positive))
      | inr past ↦ small_parts (unsigned_abs (a.num +ℤ b.num)) (a.den + b.den) (sum_fits a.num b.num c.requires.lo_num c.requires.hi_num) (omega arith) (subst (λ z. PassesLimits (unsigned_abs z) (a.den + b.den)) (sum_is a.num b.num c.requires.lo_num c.requires.hi_num) past)
    ]

-- the result is the mediant in lowest terms
reduced : (a b r : ℤ) (q d : ℕ) → unsigned_abs a ≤ 2 ^ 64 + 3 → unsigned_abs b ≤ 2 ^ 64 + 3 → IsReduced (to_z w128 (of_z w128 (to_z w128 (of_z w128 a) +ℤ to_z w128 (of_z w128 b)))) q r d → IsReduced (a +ℤ b) q r d
reduced a b r q d s t h = subst (λ z. IsReduced z q r d) (sum_is a b s t) h

-- so it is above the lower ratio
above : (a b r : ℤ) (d e q : ℕ) → unsigned_abs a ≤ 2 ^ 64 + 3 → unsigned_abs b ≤ 2 ^ 64 + 3 → IsReduced (to_z w128 (of_z w128 (to_z w128 (of_z w128 a) +ℤ to_z w128 (of_z w128 b)))) (d + e) r q → IsLessRatio a d b e → IsLessRatio a d r q
above a b r d e q s t h less = reduced_above a (a +ℤ b) r d (d + e) q (reduced a b r (d + e) q s t h) (mediant_above a b d e less)

-- and below the upper one
below : (a b r : ℤ) (d e q : ℕ) → unsigned_abs a ≤ 2 ^ 64 + 3 → unsigned_abs b ≤ 2 ^ 64 + 3 → IsReduced (to_z w128 (of_z w128 (to_z w128 (of_z w128 a) +ℤ to_z w128 (of_z w128 b)))) (d + e) r q → IsLessRatio a d b e → IsLessRatio r q b e
below a b r d e q s t h less = reduced_below b (a +ℤ b) r e (d + e) q (reduced a b r (d + e) q s t h) (mediant_below a b d e less)

pub returns-clause-above : goal.returns-clause-above
returns-clause-above c =
    let a = c.args.lo.now in
    let b = c.args.hi.now in
    let r = c.in-Some.r in
    above a.num b.num r.num a.den b.den r.den c.requires.lo_num c.requires.hi_num c.in-Some.ensures.some c.requires.less

pub returns-clause-below : goal.returns-clause-below
returns-clause-below c =
    let a = c.args.lo.now in
    let b = c.args.hi.now in
    let r = c.in-Some.r in
    below a.num b.num r.num a.den b.den r.den c.requires.lo_num c.requires.hi_num c.in-Some.ensures.some c.requires.less

pub returns-clause-no_integer : goal.returns-clause-no_integer
returns-clause-no_integer c = λ e.
    let a = c.args.lo.now in
    let b = c.args.hi.now in
    let r = c.in-Some.r in
    c.requires.none_between r.num
    (subst (λ d. IsLessRatio a.num a.den r.num d) e (above a.num b.num r.num a.den b.den r.den c.requires.lo_num c.requires.hi_num c.in-Some.ensures.some c.requires.less))
    (subst (λ d. IsLessRatio r.num d b.num b.den) e (below a.num b.num r.num a.den b.den r.den c.requires.lo_num c.requires.hi_num c.in-Some.ensures.some c.requires.less))
