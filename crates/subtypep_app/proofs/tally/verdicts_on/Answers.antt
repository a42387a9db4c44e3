use Rattle.std.proofs.Common.{◌∙◌, refl, sym, subst, []}
use Rattle.std.specs.List.{AllZip}
use Rattle.ls_cells.specs.Kept.{entries_in}
use Rattle.subtypep_app.specs.Tallies.{IsVerdictOn}
use Rattle.subtypep_app.specs.steps.Charging.{HasSpent}
use Rattle.subtypep_app.proofs.ChargeLemmas.{HaveSpent-none, HaveSpent-more}
use Rattle.subtypep_app.proofs.TallyLemmas.{verdicts_more}
use Rattle.subtypep_app.proofs.tally.verdicts_on.Goals as goal

pub loop-query-init : goal.loop-query-init
loop-query-init g c = (
  refl,
  refl,
  subst (AllZip (IsVerdictOn c.args.decider.now.budget c.args.env.now) []) (sym c.new-verdicts.ensures.items) tt,
  HaveSpent-none _ _ _ _,
)

pub loop-query-preserved : goal.loop-query-preserved
loop-query-preserved g c =
    let budget = c.args.decider.now.budget in
    let env = c.args.env.now in
    let i = c.loop-query.query-index in
    let verdict = c.in_ok-verdict_on.field-0 in
    let old = entries_in c.loop-query.decider.session in
    let new = entries_in c.verdict_on.new.decider.session in
    let before = c.loop-query.steps in
    let now = c.verdict_on.new.steps in
    let right = subst (λ n. IsVerdictOn n env c.query-item.result verdict) c.loop-query.invariant.0 c.in_ok-verdict_on.ensures.right in
    let spent = subst (λ n. HasSpent n env c.query-item.result old new before now) c.loop-query.invariant.0 c.in_ok-verdict_on.ensures.spent in (
      c.verdict_on.ensures.budget ∙ c.loop-query.invariant.0,
      c.verdict_on.ensures.structures ∙ c.loop-query.invariant.1,
      subst (AllZip (IsVerdictOn budget env) _) (sym c.in_ok-push.ensures.items)
          (verdicts_more budget env c.args.queries.now i c.query-item.result c.loop-query.verdicts.items verdict c.loop-query-test.true
          c.loop-query.invariant.2 (subst (λ q. IsVerdictOn budget env q verdict) c.query-item.is right)),
      HaveSpent-more budget env c.args.queries.now i c.query-item.result (entries_in c.args.decider.now.session) old new
          c.args.steps.now before now c.loop-query-test.true c.loop-query.invariant.3
          (subst (λ q. HasSpent budget env q old new before now) c.query-item.is spent),
    )
