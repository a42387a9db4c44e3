use Rattle.std.proofs.Common.{◌∙◌, ap, length, ◌&&◌}
use Rattle.ls_cells.specs.declared.rows.Row.{Row}
use Rattle.ls_cells.specs.steps.Pairing.{joined}
use Rattle.ls_cells.proofs.AddLemmas.{long_with}
use Rattle.ls_cells.proofs.CrossLemmas.{crosses_one}
use Rattle.ls_cells.proofs.TabulateLemmas.{length-zip_with}
use Rattle.ls_cells.proofs.ThereLemmas.{crosses_there}
use Rattle.ls_cells.proofs.pairs.push_pair.Goals as goal

pub returns-in-Some-clause-rows : goal.returns-in-Some-clause-rows
returns-in-Some-clause-rows g c =
    let both = c.and_with.ensures ∙ ap (λ xs. joined xs c.args.cdr.now.signs) c.in_ok-signs.ensures in
    crosses_there c.args.car.now c.args.cdr.now c.args.rows.now c.and_with.new.self _ both c.in-Some.ensures

pub returns-clause-long : goal.returns-clause-long
returns-clause-long g c =
    let row : Row = record { signs = c.and_with.new.self; origin = c.in_ok-origin.origin } in
    let both = c.and_with.ensures ∙ ap (λ xs. joined xs c.args.cdr.now.signs) c.in_ok-signs.ensures in
    long_with (length c.args.car.now.signs) c.args.rows.now c.add.new.self row c.in_ok-add.field-0 c.in_ok-add.ensures.rows
    (ap length both ∙ length-zip_with (λ a b. a && b) c.args.car.now.signs c.args.cdr.now.signs c.requires.long)

pub returns-clause-rows : goal.returns-clause-rows
returns-clause-rows g c =
    let row : Row = record { signs = c.and_with.new.self; origin = c.in_ok-origin.origin } in
    let both = c.and_with.ensures ∙ ap (λ xs. joined xs c.args.cdr.now.signs) c.in_ok-signs.ensures in
    crosses_one c.args.car.now c.args.cdr.now row c.args.rows.now c.add.new.self c.in_ok-add.field-0 (record { object = c.in_ok-origin.ensures.cons; signs = both }) c.in_ok-add.ensures.fresh c.in_ok-add.ensures.rows
