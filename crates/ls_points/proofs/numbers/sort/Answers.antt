use Rattle.std.proofs.Common.{◌≡◌, ◌∙◌, ap, rules}
use Rattle.std.specs.Ordering.{is_lt}
use Rattle.std.proofs.lemmas.List.Sorted.{answers_always}
use Rattle.ls_object.specs.Ratio.{ratio_cmp}
use Rattle.ls_points.specs.steps.Numbers.{is_less}
use Rattle.ls_points.proofs.FractionLemmas.{cmp_less, is_less_order}
use Rattle.ls_points.proofs.numbers.sort.Goals as goal

pub returns-clause-sorted : goal.returns-clause-sorted
returns-clause-sorted c =
    c.in_ok-sort_by.ensures.sorted is_less is_less_order
    (answers_always _ _ _ (λ f a r g h.
    let e : r ≡ ratio_cmp a.0.now.num a.0.now.den a.1.0.now.num a.1.0.now.den = search rules in
    ap is_lt e ∙ cmp_less a.0.now a.1.0.now))
