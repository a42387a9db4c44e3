use Rattle.std.proofs.Common.{◌∙◌, ap, arith, length, map}
use Rattle.ls_spec.specs.Meaning.{specifier}
use Rattle.ls_cells.specs.declared.rows.Row.{Row}
use Rattle.ls_cells.specs.steps.Idle.{IsOf}
use Rattle.ls_cells.proofs.AddLemmas.{fewer_with, long_with}
use Rattle.ls_cells.proofs.IdleLemmas.{idle_row, signs_of_idle, made_unmarked}
use Rattle.ls_cells.proofs.TabulateLemmas.{length-tabulate}
use Rattle.ls_cells.proofs.ThereLemmas.{adds_none}
use Rattle.ls_cells.proofs.idle.push_idle.Goals as goal

pub returns-in-Some-clause-rows : goal.returns-in-Some-clause-rows
returns-in-Some-clause-rows g c = λ structures learnt.
    adds_none structures learnt (map specifier c.args.atoms.now) (IsOf c.args.class) c.args.rows.now c.in_ok-signs.signs _ c.in-Some.ensures (λ o _ h.
    c.in_ok-signs.ensures ∙ signs_of_idle learnt c.args.class c.args.atoms.now o c.len.result c.len.ensures c.requires h)

pub add-requires : goal.add-requires
add-requires g c = made_unmarked c.args.class _ c.in_ok-origin.ensures

pub returns : goal.returns
returns g c =
    let row : Row = record { signs = c.in_ok-signs.signs; origin = c.in_ok-origin.origin } in
    record {
      rises = omega (arith, c.in_ok-add.ensures.step);
      most = omega (arith, c.in_ok-add.ensures.step);
      fewer = omega (arith, c.in_ok-add.ensures.step, fewer_with c.args.rows.now c.add.new.self row c.in_ok-add.field-0 c.in_ok-add.ensures.rows);
      long = long_with (length c.args.atoms.now) c.args.rows.now c.add.new.self row c.in_ok-add.field-0 c.in_ok-add.ensures.rows
          (ap length c.in_ok-signs.ensures ∙ length-tabulate _ _ ∙ c.len.ensures);
      rows = λ structures learnt.
          idle_row structures learnt c.args.class c.args.atoms.now row c.args.rows.now c.add.new.self c.in_ok-add.field-0 c.len.result c.in_ok-add.ensures.fresh c.in_ok-add.ensures.rows
          c.requires c.in_ok-origin.ensures c.len.ensures c.in_ok-signs.ensures;
    }
