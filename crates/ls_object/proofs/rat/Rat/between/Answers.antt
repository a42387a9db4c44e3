use Rattle.std.proofs.Common.{ℕ, ℤ, pos, ◌≡◌, ◌*ℤ◌, ◌<ℤ◌, ◌≤ℤ◌, refl, subst, arith}
use Rattle.std.proofs.lemmas.Int.{ints}
use Rattle.std.proofs.lemmas.Cmp.{int_ranked}
use Rattle.std.specs.declared.cmp.Ordering.{Ordering}
use Rattle.std.specs.declared.cmp.Ordering.TheVariants.{Less, Equal, Greater}
use Rattle.ls_object.specs.Ratio.{ratio_cmp, IsLessRatio}
use Rattle.ls_object.proofs.BetweenLemmas.{none_before_next, less_of_ratio, less_past_integer}
use Rattle.ls_object.proofs.rat.Rat.between.Goals as goal

-- an integer that compares as less is less
less : (next n : ℤ) (one d : ℕ) → one ≡ 1 → Less ≡ ratio_cmp next one n d → (next *ℤ pos d) <ℤ n
less next n one d e h =
    let k : Less ≡ ratio_cmp next 1 n d = subst (λ t. Less ≡ ratio_cmp next t n d) e h in
    let g : (next *ℤ pos d) <ℤ (n *ℤ pos 1) = int_ranked _ _ Less k in
    omega (arith, ints)

-- one that doesn't is no less
most : (next n : ℤ) (one d : ℕ) (o : Ordering) → one ≡ 1 → o ≡ ratio_cmp next one n d → (o ≡ Less → ⊥) → n ≤ℤ (next *ℤ pos d)
most next n one d Less e h not_less = absurd (not_less refl)
most next n one d Equal e h not_less =
    let g : (next *ℤ pos d) ≡ (n *ℤ pos 1) = int_ranked _ _ Equal (subst (λ t. Equal ≡ ratio_cmp next t n d) e h) in
    omega (arith, ints)
most next n one d Greater e h not_less =
    let g : (n *ℤ pos 1) <ℤ (next *ℤ pos d) = int_ranked _ _ Greater (subst (λ t. Greater ≡ ratio_cmp next t n d) e h) in
    omega (arith, ints)

pub mediant-requires-clause-none_between : goal.mediant-requires-clause-none_between
mediant-requires-clause-none_between c =
    let a = c.args.lo.now in
    let next = c.next_integer-next.result in
    let told = c.next_integer-next.ensures in
    λ k above below.
    let under : IsLessRatio k 1 next.num 1 = subst (λ d. IsLessRatio k 1 next.num d) told.integer below in
    none_before_next a.num next.num k a.den told.least above (omega (arith, ints))

pub mediant-requires-in_default : goal.mediant-requires-in_default
mediant-requires-in_default c =
    let a = c.args.lo.now in
    let b = c.args.hi.now in
    let next = c.next_integer-next.result in
    let told = c.next_integer-next.ensures in
    record {
      less = c.requires.less;
      none_between = λ k above below.
          none_before_next a.num next.num k a.den told.least above
          (less_of_ratio next.num k b.num b.den (most next.num b.num next.den b.den c.cmp.result told.integer c.cmp.ensures c.in_default.not-Less) below);
      lo_num = omega (arith, c.requires.lo_num);
      lo_den = c.requires.lo_den;
      hi_num = omega (arith, c.requires.hi_num);
      hi_den = c.requires.hi_den;
    }

pub returns-in-Less-clause-below : goal.returns-in-Less-clause-below
returns-in-Less-clause-below c =
    let b = c.args.hi.now in
    let r = c.mediant.result in
    let next = c.next_integer-next.result in
    let told = c.next_integer-next.ensures in
    less_past_integer r.num next.num b.num r.den b.den r.positive
    (subst (λ d. IsLessRatio r.num r.den next.num d) told.integer c.mediant.ensures.below)
    (less next.num b.num next.den b.den told.integer c.in-Less.ensures)
