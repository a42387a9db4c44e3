use Rattle.std.proofs.Common.{ℕ, ℤ, pos, ◌≡◌, ◌*ℤ◌, ◌<ℤ◌, ◌≤ℤ◌, refl, subst, arith}
use Rattle.std.proofs.lemmas.Int.{ints}
use Rattle.std.proofs.lemmas.Cmp.{int_ranked}
use Rattle.std.specs.declared.cmp.Ordering.{Ordering}
use Rattle.std.specs.declared.cmp.Ordering.TheVariants.{Less, Equal, Greater}
use Rattle.ls_object.specs.Ratio.{ratio_cmp}
use Rattle.ls_object.proofs.BetweenLemmas.{none_before_next, less_of_ratio}
use Rattle.ls_points.proofs.numbers.integer_between.Goals as goal

-- an integer that doesn't compare as less is no less
most : (next n : ℤ) (one d : ℕ) (o : Ordering) → one ≡ 1 → o ≡ ratio_cmp next one n d → (o ≡ Less → ⊥) → n ≤ℤ (next *ℤ pos d)
most next n one d Less e h not_less = absurd (not_less refl)
most next n one d Equal e h not_less =
    let g : (next *ℤ pos d) ≡ (n *ℤ pos 1) = int_ranked _ _ Equal (subst (λ t. Equal ≡ ratio_cmp next t n d) e h) in
    omega (arith, ints)
most next n one d Greater e h not_less =
    let g : (n *ℤ pos 1) <ℤ (next *ℤ pos d) = int_ranked _ _ Greater (subst (λ t. Greater ≡ ratio_cmp next t n d) e h) in
    omega (arith, ints)

pub returns-in_default : goal.returns-in_default
returns-in_default c = λ k above below.
    let a = c.args.lo.now in
    let b = c.args.hi.now in
    let next = c.integer_above-next.result in
    let told = c.integer_above-next.ensures in
    none_before_next a.num next.num k a.den told.least above
    (less_of_ratio next.num k b.num b.den (most next.num b.num next.den b.den c.cmp.result told.integer c.cmp.ensures c.in_default.not-Less) below)
