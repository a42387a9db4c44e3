use Rattle.std.proofs.Common.{◌++◌, ◌∙◌, ap, sym}
use Rattle.subtypep_app.specs.Report.{answer_text}
use Rattle.subtypep_app.proofs.AppendLemmas.{appended_twice}
use Rattle.subtypep_app.proofs.text.push_answer.Goals as goal

pub returns-in_ok-write_text-in-No : goal.returns-in_ok-write_text-in-No
returns-in_ok-write_text-in-No c =
    appended_twice c.args.out.now _ _ _ _ c.in_ok-push_ascii-in-No.ensures.ok c.in_ok-write_text-in-No.ensures.ok
    ∙ sym (ap (λ a. c.args.out.now ++ answer_text a) c.in-No.is)
