use Rattle.std.proofs.Common.{ap, sym}
use Rattle.ls_cells.specs.Kept.{entries_in}
use Rattle.subtypep_app.specs.Queries.{question_of, refusal_of_question}
use Rattle.subtypep_app.proofs.StopLemmas.{refused_spends}
use Rattle.subtypep_app.proofs.line.line_of.Goals as goal

-- a query that is refused by itself spends nothing
pub returns-in-Refused-clause-spends : goal.returns-in-Refused-clause-spends
returns-in-Refused-clause-spends g c =
    refused_spends c.args.decider.now.budget c.args.env.now (entries_in c.args.decider.now.session) c.args.steps.now
    (question_of c.args.query.now) c.in-Refused.refusal (ap (refusal_of_question c.args.env.now) (sym c.in-Refused.ensures))
