use Rattle.std.proofs.Common.{◌∙◌, ap, sym, arith, length, map}
use Rattle.ls_object.specs.Meaning.{lisp_object}
use Rattle.ls_spec.specs.Meaning.{specifier}
use Rattle.ls_cells.specs.declared.rows.Row.{Row}
use Rattle.ls_cells.specs.Cells.{signs_at, bare}
use Rattle.ls_cells.proofs.MarkLemmas.{bare_plain}
use Rattle.ls_cells.specs.steps.Classes.{IsItself}
use Rattle.ls_cells.proofs.AddLemmas.{fewer_with, long_with}
use Rattle.ls_cells.proofs.ClassLemmas.{object_row}
use Rattle.ls_cells.proofs.ThereLemmas.{adds_none}
use Rattle.ls_cells.proofs.classes.push_object.Goals as goal

pub returns-in-Some-clause-rows : goal.returns-in-Some-clause-rows
returns-in-Some-clause-rows g c = λ structures learnt over object known.
    adds_none structures learnt (map specifier c.args.atoms.now) (IsItself (lisp_object c.args.object)) c.args.rows.now c.in_ok-signs.signs _ c.in-Some.ensures (λ o _ f.
    c.in_ok-signs.ensures.signs structures learnt over known ∙ ap (signs_at learnt (map specifier c.args.atoms.now)) (c.requires.plain ∙ sym (ap bare f ∙ bare_plain (lisp_object c.args.object) c.requires.plain)))

pub returns : goal.returns
returns g c =
    let row : Row = record { signs = c.in_ok-signs.signs; origin = c.in_ok-origin.origin } in
    record {
      rises = omega (arith, c.in_ok-add.ensures.step);
      most = omega (arith, c.in_ok-add.ensures.step);
      fewer = omega (arith, c.in_ok-add.ensures.step, fewer_with c.args.rows.now c.add.new.self row c.in_ok-add.field-0 c.in_ok-add.ensures.rows);
      long = long_with (length c.args.atoms.now) c.args.rows.now c.add.new.self row c.in_ok-add.field-0 c.in_ok-add.ensures.rows c.in_ok-signs.ensures.long;
      rows = λ structures learnt over object known.
          object_row structures learnt (map specifier c.args.atoms.now) row (lisp_object c.args.object) c.args.rows.now c.add.new.self c.in_ok-add.field-0 c.in_ok-add.ensures.fresh c.in_ok-add.ensures.rows
          object c.requires.plain c.in_ok-origin.ensures (c.in_ok-signs.ensures.signs structures learnt over known);
    }
