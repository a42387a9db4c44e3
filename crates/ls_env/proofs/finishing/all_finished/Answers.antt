use Rattle.std.proofs.Common.{length}
use Rattle.ls_env.specs.declared.status.NameStatus.TheVariants as status
use Rattle.ls_env.proofs.FinishLemmas.{numbered_at, finished_next}
use Rattle.ls_env.proofs.finishing.all_finished.Goals as goal

pub loop-status-preserved : goal.loop-status-preserved
loop-status-preserved c = λ graph are numbered.
    let statuses = c.args.statuses.now in
    let at = c.loop-status.status-index in
    finished_next graph statuses c.loop-status.all c.push.new.self at status.Unknown c.finished.result c.loop-status-test.true
    (c.finished.ensures graph are (numbered_at (length graph) statuses at status.Unknown numbered c.loop-status-test.true))
    c.in_ok-push.ensures.ok (c.loop-status.invariant graph are numbered)
