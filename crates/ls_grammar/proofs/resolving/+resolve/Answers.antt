use Rattle.std.proofs.Common.{sym, subst, arith}
use Rattle.ls_spec.specs.Meaning.{specifier}
use Rattle.ls_grammar.specs.steps.Answering.{shown, StopsAs, Steps}
use Rattle.ls_grammar.specs.steps.Running.{outcome}
use Rattle.ls_grammar.proofs.OutcomeLemmas.{run_push, outcome_full, outcome_entered}
use Rattle.ls_grammar.proofs.resolving.+resolve.Goals as goal

pub resolve_all-loop-part-preserved : goal.resolve_all-loop-part-preserved
resolve_all-loop-part-preserved t c =
    run_push (outcome c.args.env.now c.args.left) c.args.parts.now c.loop-part.part-index c.part-item.result c.loop-part.room c.resolve_in.new.room c.loop-part.specs c.push.new.self c.in_ok-resolve_in.field-0 _
    c.loop-part-test.true c.part-item.is c.in_ok-resolve_in.ensures c.in_ok-push.ensures.ok c.loop-part.invariant

-- there is no room
pub resolve_in-returns-then-room-eq0 : goal.resolve_in-returns-then-room-eq0
resolve_in-returns-then-room-eq0 t c =
    let full = outcome_full c.args.env.now c.args.left c.args.datum.now c.args.room.now
    (omega (arith, c.if-left-eq0.false)) (omega (arith, c.if-room-eq0.true)) in
    subst (StopsAs (outcome c.args.env.now c.args.left c.args.datum.now c.args.room.now)) (sym c.stopped-then-room-eq0.ensures) full

-- there is room for the visit
pub resolve_in-returns : goal.resolve_in-returns
resolve_in-returns t c =
    let entered = outcome_entered c.args.env.now c.args.left c.args.datum.now c.args.room.now (shown c.level_of.result)
    (omega (arith, c.if-left-eq0.false)) (omega (arith, c.if-room-eq0.false)) c.level_of.ensures.value in
    subst (Steps specifier c.resolve_at.result c.resolve_at.new.room) (sym entered) c.resolve_at.ensures
