use Rattle.ls_env.proofs.HeldLemmas.{marks_next}
use Rattle.ls_env.proofs.marking.marks_by_walks.Goals as goal

pub loop-at-preserved : goal.loop-at-preserved
loop-at-preserved c =
    marks_next c.args.graph.now c.loop-at.at c.loop-at.marks c.push.new.self c.in_ok-comes_back.field-0 c.in_ok-comes_back.ensures
    c.in_ok-push.ensures.ok c.loop-at.invariant
