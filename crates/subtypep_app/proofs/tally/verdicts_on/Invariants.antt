use Rattle.std.proofs.Common.{◌≡◌, take}
use Rattle.std.specs.List.{AllZip}
use Rattle.ls_cells.specs.Kept.{structures_in, entries_in}
use Rattle.subtypep_app.specs.Tallies.{IsVerdictOn}
use Rattle.subtypep_app.specs.steps.Charging.{HaveSpent}
use Rattle.subtypep_app.proofs.tally.verdicts_on.Given as goal

abbrev pub invariant-loop-query : goal.invariant-loop-query
invariant-loop-query g l =
    (l.decider.budget ≡ l.fn.decider.budget)
    × (structures_in l.decider.session ≡ structures_in l.fn.decider.session)
    × AllZip (IsVerdictOn l.fn.decider.budget l.env) (take l.query-index l.queries) l.verdicts.items
    × HaveSpent l.fn.decider.budget l.env (take l.query-index l.queries) (entries_in l.fn.decider.session) (entries_in l.decider.session) l.fn.steps l.steps
