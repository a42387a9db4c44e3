use Rattle.std.proofs.Common.{◌≡◌, take}
use Rattle.ls_cells.specs.Kept.{structures_in, entries_in, Grows}
use Rattle.subtypep_app.specs.Report.{AreReported, IsLineOf, line_text, is_finding}
use Rattle.subtypep_app.specs.steps.Charging.{HaveSpent}
use Rattle.subtypep_app.proofs.report.push_queries.Given as goal

abbrev pub invariant-loop-query : goal.invariant-loop-query
invariant-loop-query g l =
    (l.decider.budget ≡ l.fn.decider.budget)
    × (structures_in l.decider.session ≡ structures_in l.fn.decider.session)
    × AreReported (IsLineOf l.fn.decider.budget l.env) line_text is_finding (take l.query-index l.queries) l.found l.out
    × Grows (entries_in l.fn.decider.session) (entries_in l.decider.session)
    × HaveSpent l.fn.decider.budget l.env (take l.query-index l.queries) (entries_in l.fn.decider.session) (entries_in l.decider.session) l.fn.steps l.steps
