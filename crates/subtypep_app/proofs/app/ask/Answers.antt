use Rattle.std.proofs.Common.{inl, refl, ap, subst, Err}
use Rattle.subtypep_app.specs.declared.status.Status.TheVariants.{Unreadable}
use Rattle.subtypep_app.specs.Report.{too_long_text}
use Rattle.subtypep_app.specs.Replies.{IsAnswered}
use Rattle.subtypep_app.proofs.ToldLemmas.{told_all, told_too_long, too_long_no_fault, too_long_bytes}
use Rattle.subtypep_app.proofs.EndingLemmas.{IsReply-from_answer, ReadAll-at_end, HasReplied-finished, HasReplied-whole, HasReplied-memory, HasReplied-read_failed}
use Rattle.subtypep_app.proofs.app.ask.Goals as goal

-- the text that was read is answered
pub returns-in-Ok-report_of : goal.returns-in-Ok-report_of
returns-in-Ok-report_of g c = λ words means.
    let text = c.in-Ok.text.items in
    let report = c.in-Ok-report_of.report in
    let told = told_all _ _ text c.in-Ok.ensures.all c.in-Ok.ensures.end in
    let answer = subst (λ bytes. IsAnswered c.args.budget bytes report.status report.text c.args.steps.now c.report_of.new.steps) c.deref.ensures.value c.in-Ok-report_of.ensures in
    HasReplied-whole words _ _ _ _ report.status _ text report.text _ told (IsReply-from_answer words c.args.budget means text report.status report.text c.args.steps.now c.report_of.new.steps answer)
    c.as_bytes.ensures.utf8 (ReadAll-at_end words c.args.budget means _ _ c.in-Ok.ensures.end) (c.in-Ok.ensures.quiet (λ e. absurd (cc))) c.finish.ensures.later c.finish.ensures.ends

-- the text is too long
pub returns-in-Err-TooLong : goal.returns-in-Err-TooLong
returns-in-Err-TooLong g c = λ words means.
    let told = told_too_long _ _ (c.in-Err-TooLong.ensures.too_long (ap Err c.in-Err-TooLong.field-0-is)) in
    let right = IsReply-from_answer words c.args.budget means told.0 Unreadable too_long_text c.args.steps.now c.args.steps.now (inl (told.2, refl)) in
    HasReplied-finished words _ _ _ _ Unreadable _ told.0 too_long_text _ told.1 right too_long_bytes (λ wrote. wrote)
    (c.in-Err-TooLong.ensures.quiet (too_long_no_fault _ c.in-Err-TooLong.field-0 refl c.in-Err-TooLong.field-0-is)) c.finish-in-Err-TooLong.ensures.later c.finish-in-Err-TooLong.ensures.ends

-- a read failed
pub returns-in-Err-Fault : goal.returns-in-Err-Fault
returns-in-Err-Fault g c = λ words means.
    HasReplied-read_failed words _ _ _ _ (c.in-Err-Fault.ensures.fault (ap Err c.in-Err-Fault.field-0-is)) (λ sound. (c.in-Err-Fault.ensures.sound sound).0 (ap Err c.in-Err-Fault.field-0-is))
    c.in-Err-Fault.ensures.later refl refl

-- memory was wanting for the text
pub returns : goal.returns
returns g c = λ words means.
    HasReplied-memory words _ _ _ _ refl (c.in-Err-Memory.ensures.quiet (λ e. absurd (cc))) refl

-- memory was wanting for the report
pub returns-in-Ok : goal.returns-in-Ok
returns-in-Ok g c = λ words means.
    HasReplied-memory words _ _ _ _ refl (c.in-Ok.ensures.quiet (λ e. absurd (cc))) refl
