use Rattle.std.proofs.Common.{◌∙◌, ap, sym, length}
use Rattle.std.proofs.lemmas.List.{length-map}
use Rattle.std.proofs.lemmas.Result.{IfOk-weaker}
use Rattle.ls_intern.specs.Places.{at as specifier_at, specifiers_at}
use Rattle.ls_cells.proofs.TabulateLemmas.{length-tabulate}
use Rattle.ls_cells.proofs.TurnLemmas.{columns_long}
use Rattle.ls_cells.proofs.HoldLemmas.{column_holds}
use Rattle.ls_cells.proofs.column.column_of.Goals as goal

pub evaluate-requires : goal.evaluate-requires
evaluate-requires c k d l =
    columns_long (length c.args.cells.now.atoms) c.args.cells.now.rows c.as_slice.result.now (c.as_slice.ensures ∙ c.args.cells.now.turned) k d l ∙ sym c.len.ensures.len

pub returns-clause-len : goal.returns-clause-len
returns-clause-len c = IfOk-weaker c.evaluate.result _ _ (λ out e. ap length e ∙ length-tabulate c.len.result _ ∙ c.len.ensures.len) c.evaluate.ensures

pub returns-clause-holds : goal.returns-clause-holds
returns-clause-holds c =
    IfOk-weaker c.evaluate.result _ _ (λ out e.
    column_holds (specifiers_at c.args.table.now c.args.cells.now.atoms) (length c.args.cells.now.atoms) (specifier_at c.args.table.now c.args.id) c.in_ok-formula.formula c.args.cells.now.rows c.as_slice.result.now c.len.result out
    (length-map c.args.cells.now.atoms (specifier_at c.args.table.now)) (c.as_slice.ensures ∙ c.args.cells.now.turned) c.len.ensures.len c.in_ok-formula.ensures e) c.evaluate.ensures
