use Rattle.std.proofs.Common.{◌∙◌}
use Rattle.ls_env.proofs.HeldLemmas.{back_is_stays, marks_next}
use Rattle.ls_env.proofs.marking.marks_by_parts.Goals as goal

pub loop-at-preserved : goal.loop-at-preserved
loop-at-preserved c =
    let graph = c.args.graph.now in
    let at = c.loop-at.at in
    marks_next graph at c.loop-at.marks c.push.new.self c.stays.result
    (c.stays.ensures ∙ back_is_stays graph c.args.parts.now c.requires.range c.requires.parts at c.loop-at-test.true)
    c.in_ok-push.ensures.ok c.loop-at.invariant
