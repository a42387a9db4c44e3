use Rattle.std.proofs.Common.{◌∙◌, ap, length}
use Rattle.ls_cells.proofs.TurnLemmas.{columns_are}
use Rattle.ls_cells.proofs.cells.Cells.new.Goals as goal

pub invariant_of-result : goal.invariant_of-result
invariant_of-result c = record {
  turned = columns_are (length c.args.atoms) (length c.as_slice-2.result.now) c.args.rows c.as_slice.result.now c.in_ok-columns.columns c.in_ok-columns.ensures
      (c.as_slice.ensures ∙ c.in_ok-lists.ensures) (ap length c.as_slice-2.ensures);
}
