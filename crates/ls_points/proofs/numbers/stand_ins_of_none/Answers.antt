use Rattle.std.proofs.Common.{◌++◌, [], ap, sym, subst, ◌∙◌}
use Rattle.ls_points.specs.steps.Numbers.{gap_numbers, AreStandIns}
use Rattle.ls_points.proofs.GapLemmas.{AreStandIns-none}
use Rattle.ls_points.proofs.numbers.stand_ins_of_none.Goals as goal

pub returns-clause-law : goal.returns-clause-law
returns-clause-law c =
    let is = c.in_ok-push_gap.ensures ∙ ap (λ xs. xs ++ gap_numbers c.numbers_above.result) c.new-out.ensures.items in
    subst (AreStandIns []) (sym is) (AreStandIns-none c.integer.result c.numbers_above.result c.numbers_above.ensures)
