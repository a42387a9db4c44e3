use Rattle.std.proofs.Common.{◌∙◌, ap, sym, [], ◌∷◌, ◌++◌, take}
use Rattle.ls_cells.specs.Rows.{signs_of}
use Rattle.ls_cells.proofs.TurnLemmas.{signs_more}
use Rattle.ls_cells.proofs.cells.lists_of.Goals as goal

pub loop-i-preserved : goal.loop-i-preserved
loop-i-preserved c =
    c.in_ok-push.ensures.ok ∙ ap (λ lists. lists ++ c.in_ok-list.list ∷ []) c.loop-i.invariant ∙ ap (λ list. signs_of (take c.loop-i.i c.args.rows.now) ++ list ∷ []) c.in_ok-list.ensures
    ∙ sym (signs_more c.args.rows.now c.loop-i.i c.row.result.now c.row.ensures.row)
