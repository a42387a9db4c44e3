use Rattle.std.proofs.Common.{◌∙◌, subst, List, IfOk}
use Rattle.ls_env.specs.declared.query.Query.{Query}
use Rattle.subtypep_app.specs.Report.{AreReported, IsLineOf, line_text, is_finding}
use Rattle.subtypep_app.proofs.ChargeLemmas.{charged_if}
use Rattle.subtypep_app.proofs.report.push_report.Goals as goal

-- the decider has the budget that was asked for, and the queries are those of the file
pub returns-clause-lines : goal.returns-clause-lines
returns-clause-lines g c =
    subst (λ budget. IfOk c.push_queries.result (λ found. AreReported (IsLineOf budget c.args.env.now) line_text is_finding c.args.env.now.queries found c.push_queries.new.out)) c.in_ok-decider.ensures.budget
    (subst (λ (qs : List Query). IfOk c.push_queries.result (λ found. AreReported (IsLineOf c.in_ok-decider.decider.budget c.args.env.now) line_text is_finding qs found c.push_queries.new.out))
    (c.as_slice.ensures ∙ c.queries.ensures) c.push_queries.ensures.lines)

-- nothing was kept before
pub returns-clause-charged : goal.returns-clause-charged
returns-clause-charged g c =
    charged_if c.args.budget c.args.env.now _ _ _ _ _ c.push_queries.result c.in_ok-decider.ensures.empty (c.as_slice.ensures ∙ c.queries.ensures)
    c.in_ok-decider.ensures.budget c.push_queries.ensures.spent
