-- Folds over data, one form at a time.
use Rattle.std.proofs.Common.{◌≡◌, ap, sym, ◌∙◌}
use Rattle.ls_reader.specs.declared.datum.Datum.{Datum, fold-Datum}
use Rattle.ls_reader.specs.declared.datum.Form.{Form, out-Form, roll-Form, roll-out-Form, fold-Form}
use Rattle.ls_reader.specs.declared.datum.Form.TheOpen.{Form-F, Datum-F}
use Rattle.ls_reader.specs.declared.datum.Form.TheFolds.{map-Form, fold-roll-Form, fold-roll-Datum}

module _ {A B : Type 0} (form_step : Form-F A B → A) (datum_step : Datum-F A B → B) where
  -- what a fold gives of a datum of that form
  pub fold_by_form : (d : Datum) (f : Form-F Form Datum) → out-Form d.form ≡ f
      → fold-Datum A B form_step datum_step d
      ≡ datum_step (record {
        span = d.span;
        form = form_step (map-Form Form Datum A B (fold-Form A B form_step datum_step)
            (fold-Datum A B form_step datum_step) f);
      })
  fold_by_form d f is =
      fold-roll-Datum A B form_step datum_step (record { span = d.span; form = d.form })
      ∙ ap (λ g. datum_step (record { span = d.span; form = fold-Form A B form_step datum_step g }))
      (sym (roll-out-Form d.form) ∙ ap roll-Form is)
      ∙ ap (λ x. datum_step (record { span = d.span; form = x })) (fold-roll-Form A B form_step datum_step f)
