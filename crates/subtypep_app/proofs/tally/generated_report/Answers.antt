use Rattle.std.proofs.Common.{subst, sym}
use Rattle.subtypep_app.specs.Replies.{AreTold}
use Rattle.subtypep_app.proofs.GeneratedLemmas.{AreTold-from_tally}
use Rattle.subtypep_app.proofs.tally.generated_report.Goals as goal

-- the numbers are those of the forms
pub returns : goal.returns
returns g c =
    let report = c.in_ok-text.text in
    let before = c.args.steps.now in
    let now = c.report_on.new.steps in
    subst (λ status. AreTold c.args.count c.args.budget status report before now) (sym c.status_for-status.ensures)
    (AreTold-from_tally c.args.count c.args.budget c.in_ok-forms.forms c.in_ok-text.found report before now c.requires.count
    c.in_ok-forms.ensures c.in_ok-text.ensures)
