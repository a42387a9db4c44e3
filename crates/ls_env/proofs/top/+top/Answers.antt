use Rattle.std.proofs.Common.{map}
use Rattle.ls_env.proofs.TopLemmas.{tops_next, tops_end}
use Rattle.ls_env.proofs.top.+top.Goals as goal

pub push_from-loop-i-preserved : goal.push_from-loop-i-preserved
push_from-loop-i-preserved t c =
    tops_next c.args.forms.now c.loop-i.i c.index-forms-i.result (map (λ d. d.now) c.loop-i.out)
    (map (λ d. d.now) c.push_top.new.out) _
    c.loop-i-test.true c.index-forms-i.is c.in_ok-push_top.ensures c.loop-i.invariant

pub push_from-returns : goal.push_from-returns
push_from-returns t c =
    tops_end c.args.forms.now c.loop-i.i (map (λ d. d.now) c.loop-i.out) _ c.loop-i-test.false c.loop-i.invariant
