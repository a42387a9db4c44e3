use Rattle.std.proofs.Common.{◌∙◌, ap, sym, length}
use Rattle.ls_cells.proofs.TabulateLemmas.{length-tabulate}
use Rattle.ls_cells.proofs.ColumnLemmas.{outside_is}
use Rattle.ls_cells.proofs.formula.row_outside.Goals as goal

pub place_outside-requires : goal.place_outside-requires
place_outside-requires c = ap length c.in_ok-inside.ensures ∙ length-tabulate c.args.count _ ∙ sym (ap length c.in_ok-allowed.ensures ∙ length-tabulate c.args.count _)

pub returns : goal.returns
returns c = outside_is c.args.count _ _ _ _ _ c.in_ok-inside.ensures c.in_ok-allowed.ensures c.place_outside.ensures
