use Rattle.std.proofs.Common.{subst}
use Rattle.ls_deftype.specs.steps.Begun.{Starts}
use Rattle.ls_deftype.proofs.TurnLemmas.{goes_in}
use Rattle.ls_deftype.proofs.copying.turn_in.Goals as goal

pub returns-in_ok-push-in-Begun : goal.returns-in_ok-push-in-Begun
returns-in_ok-push-in-Begun c =
    let starts = subst (Starts c.args.datum.now) c.in-Begun.is c.in_ok-copy.ensures in
    goes_in c.args.below.now c.push-in-Begun.new.self c.args.top c.in-Begun.inner c.args.datum.now c.args.room.now c.take_one.new.room
    c.in_ok-take_one.ensures.1 starts.0 starts.1 c.in_ok-push-in-Begun.ensures.ok
