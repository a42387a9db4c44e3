use Rattle.std.proofs.Common.{◌∙◌, ap, length}
use Rattle.ls_cells.specs.declared.rows.Row.{Row}
use Rattle.ls_cells.specs.Rows.{origin_object}
use Rattle.ls_cells.proofs.AddLemmas.{long_with}
use Rattle.ls_cells.proofs.ConsLemmas.{cons_adds}
use Rattle.ls_cells.proofs.TabulateLemmas.{length-tabulate}
use Rattle.ls_cells.proofs.ThereLemmas.{cons_there}
use Rattle.ls_cells.proofs.pairs.push_cons.Goals as goal

pub returns-in-Some-clause-rows : goal.returns-in-Some-clause-rows
returns-in-Some-clause-rows g c = λ structures learnt list.
    cons_there structures learnt list c.args.count c.args.rows.now c.in_ok-signs.signs _ c.in-Some.ensures c.in_ok-signs.ensures

pub returns-clause-long : goal.returns-clause-long
returns-clause-long g c =
    let row : Row = record { signs = c.in_ok-signs.signs; origin = c.in_ok-origin.origin } in
    long_with c.args.count c.args.rows.now c.add.new.self row c.in_ok-add.field-0 c.in_ok-add.ensures.rows (ap length c.in_ok-signs.ensures ∙ length-tabulate _ _)

pub returns-clause-rows : goal.returns-clause-rows
returns-clause-rows g c = λ structures learnt list.
    let row : Row = record { signs = c.in_ok-signs.signs; origin = c.in_ok-origin.origin } in
    let nil = origin_object c.in_ok-nil.nil.value in
    cons_adds structures learnt list c.args.count row c.args.rows.now c.add.new.self c.in_ok-add.field-0 nil nil c.in_ok-add.ensures.fresh c.in_ok-add.ensures.rows c.in_ok-nil.ensures c.in_ok-nil.ensures c.in_ok-origin.ensures.cons c.in_ok-signs.ensures
