use Rattle.std.proofs.Common.{refl}
use Rattle.subtypep_app.proofs.ToldLemmas.{told_any}
use Rattle.subtypep_app.proofs.EndingLemmas.{IsReply-from_told, ReadAll-none, HasReplied-whole, HasReplied-memory}
use Rattle.subtypep_app.proofs.app.generate.Goals as goal

-- the report on the generated text was written, or a write failed
pub returns-in-Ok : goal.returns-in-Ok
returns-in-Ok g c = λ words left faults means.
    let report = c.in-Ok.report in
    let told = told_any left in
    HasReplied-whole words _ _ _ _ report.status _ told.0 report.text _ told.1
    (IsReply-from_told words c.args.count c.args.budget means told.0 report.status report.text c.args.steps.now c.generated_report.new.steps c.in-Ok.ensures)
    c.as_bytes.ensures.utf8 (ReadAll-none words c.args.count c.args.budget means left) refl c.finish.ensures.later c.finish.ensures.ends

-- memory was wanting
pub returns-in-Err : goal.returns-in-Err
returns-in-Err g c = λ words left faults means. HasReplied-memory words _ _ _ _ refl refl refl
