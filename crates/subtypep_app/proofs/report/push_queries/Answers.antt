use Rattle.std.proofs.Common.{◌≡◌, ◌||◌, [], refl, ◌∙◌, subst, arith}
use Rattle.ls_cells.proofs.EntryLemmas.{grows_none, grows_both}
use Rattle.subtypep_app.specs.steps.Reporting.{LineAppended}
use Rattle.ls_cells.specs.Kept.{entries_in}
use Rattle.subtypep_app.specs.steps.Charging.{HasSpent}
use Rattle.subtypep_app.proofs.ReportLemmas.{AreReported-appended}
use Rattle.subtypep_app.proofs.ChargeLemmas.{HaveSpent-none, HaveSpent-more}
use Rattle.subtypep_app.proofs.report.push_queries.Goals as goal

pub loop-query-init : goal.loop-query-init
loop-query-init g c = (refl, refl, record { lines = []; right = tt; text = c.requires.empty; found_is = refl }, grows_none _, HaveSpent-none _ _ _ _)

pub loop-query-preserved : goal.loop-query-preserved
loop-query-preserved g c =
    let is : c.if-found.found ≡ (c.loop-query.found || c.in_ok-finding.finding) = grind arith in
    let appended = subst (λ budget. LineAppended budget c.args.env.now c.query-item.result c.loop-query.out c.push_query.new.out c.in_ok-finding.finding) c.loop-query.invariant.0 c.in_ok-finding.ensures.line in (
      c.push_query.ensures.budget ∙ c.loop-query.invariant.0,
      c.push_query.ensures.structures ∙ c.loop-query.invariant.1,
      AreReported-appended c.args.decider.now.budget c.args.env.now c.args.queries.now c.loop-query.query-index c.query-item.result c.loop-query.found c.in_ok-finding.finding c.if-found.found c.loop-query.out c.push_query.new.out
          c.loop-query-test.true c.loop-query.invariant.2
          (subst (λ q. LineAppended c.args.decider.now.budget c.args.env.now q c.loop-query.out c.push_query.new.out c.in_ok-finding.finding) c.query-item.is appended) is,
      grows_both _ _ _ c.loop-query.invariant.3 c.push_query.ensures.keeps,
      (let old = entries_in c.loop-query.decider.session in
          let new = entries_in c.push_query.new.decider.session in
          let spent = subst (λ budget. HasSpent budget c.args.env.now c.query-item.result old new c.loop-query.steps c.push_query.new.steps) c.loop-query.invariant.0 c.in_ok-finding.ensures.spent in
          HaveSpent-more c.args.decider.now.budget c.args.env.now c.args.queries.now c.loop-query.query-index c.query-item.result
          (entries_in c.args.decider.now.session) old new c.args.steps.now c.loop-query.steps c.push_query.new.steps
          c.loop-query-test.true c.loop-query.invariant.4
          (subst (λ q. HasSpent c.args.decider.now.budget c.args.env.now q old new c.loop-query.steps c.push_query.new.steps) c.query-item.is spent)),
    )

-- what was kept before the line that failed, and what it kept
pub returns-in_err-finding-clause-keeps : goal.returns-in_err-finding-clause-keeps
returns-in_err-finding-clause-keeps g c = grows_both _ _ _ c.loop-query.invariant.3 c.in_err-finding.ensures.keeps

pub returns-clause-keeps : goal.returns-clause-keeps
returns-clause-keeps g c = c.loop-query.invariant.3
