use Rattle.std.proofs.Common.{subst}
use Rattle.std.specs.Prelude.{IfOk}
use Rattle.subtypep_app.specs.steps.Counting.{AreTallied}
use Rattle.subtypep_app.proofs.tally.tally_of.Goals as goal

-- the decider has the budget that was asked for
pub returns : goal.returns
returns g c =
    subst (λ budget. IfOk c.tally_with.result (λ tally. AreTallied budget c.args.env.now tally c.args.steps.now c.tally_with.new.steps))
    c.in_ok-decider.ensures.budget c.tally_with.ensures
