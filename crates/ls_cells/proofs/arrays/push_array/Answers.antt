use Rattle.std.proofs.Common.{◌∙◌, ap, arith, length, sym}
use Rattle.std.proofs.lemmas.List.{length-map}
use Rattle.ls_object.specs.Meaning.{lisp_object}
use Rattle.ls_cells.specs.declared.rows.Row.{Row}
use Rattle.ls_cells.specs.Cells.{signs_at, bare}
use Rattle.ls_cells.specs.steps.Asking.{is_asked}
use Rattle.ls_cells.specs.steps.Classes.{IsItself}
use Rattle.ls_cells.proofs.AddLemmas.{fewer_with, long_with}
use Rattle.ls_cells.proofs.ArrayLemmas.{array_row}
use Rattle.ls_cells.proofs.ThereLemmas.{adds_none}
use Rattle.ls_cells.proofs.arrays.push_array.Goals as goal

pub returns-in-Some-clause-rows : goal.returns-in-Some-clause-rows
returns-in-Some-clause-rows g c = λ structures learnt atoms right object.
    adds_none structures learnt atoms (IsItself (lisp_object c.args.object)) c.args.rows.now c.in_ok-signs.signs _ c.in-Some.ensures (λ o _ f.
    c.in_ok-signs.ensures ∙ sym (right (lisp_object c.args.object) object c.requires.class) ∙ ap (λ x. signs_at learnt atoms (bare x)) (sym f))

pub returns : goal.returns
returns g c =
    let row : Row = record { signs = c.in_ok-signs.signs; origin = c.in_ok-origin.origin } in
    record {
      rises = omega (arith, c.in_ok-add.ensures.step);
      most = omega (arith, c.in_ok-add.ensures.step);
      fewer = omega (arith, c.in_ok-add.ensures.step, fewer_with c.args.rows.now c.add.new.self row c.in_ok-add.field-0 c.in_ok-add.ensures.rows);
      long = long_with (length c.args.asked.now) c.args.rows.now c.add.new.self row c.in_ok-add.field-0 c.in_ok-add.ensures.rows
          (ap length c.in_ok-signs.ensures ∙ length-map c.args.asked.now (is_asked (lisp_object c.args.object)));
      rows = λ structures learnt atoms right object.
          array_row structures learnt atoms c.args.asked.now right row (lisp_object c.args.object) c.args.rows.now c.add.new.self c.in_ok-add.field-0 c.in_ok-add.ensures.fresh c.in_ok-add.ensures.rows
          object c.requires.class c.requires.plain c.in_ok-origin.ensures c.in_ok-signs.ensures;
    }
