use Rattle.std.proofs.Common.{◌∷◌, ◌++◌, [], ap, inr, ◌∙◌, append_assoc}
use Rattle.ls_points.specs.steps.Numbers.{gap_numbers}
use Rattle.ls_points.proofs.numbers.push_gap_and_end.Goals as goal

pub returns : goal.returns
returns c =
    let end = c.args.end in
    let gap = c.numbers_between.result in
    let is = c.in_ok-push_end.ensures ∙ ap (λ xs. xs ++ end ∷ []) c.in_ok-push_gap.ensures ∙ append_assoc c.args.out.now.items (gap_numbers gap) (end ∷ []) in
    inr (c.requires.less, (gap, (c.numbers_between.ensures, is)))
