use Rattle.ls_deftype.proofs.TurnLemmas.{goes_out}
use Rattle.ls_deftype.proofs.copying.turn_out.Goals as goal

pub returns-in_ok-push-in-Some : goal.returns-in_ok-push-in-Some
returns-in_ok-push-in-Some c =
    λ n. goes_out c.args.below.now c.pop.new.self c.args.top c.in-Some.outer c.push.new.self c.in_ok-datum.datum n
    c.in-Some.ensures c.in_ok-datum.ensures c.in_ok-push-in-Some.ensures.ok
