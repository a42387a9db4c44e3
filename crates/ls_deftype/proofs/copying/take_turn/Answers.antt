use Rattle.std.proofs.Common.{length}
use Rattle.ls_deftype.proofs.TurnLemmas.{turned_at}
use Rattle.ls_deftype.proofs.copying.take_turn.Goals as goal

pub returns-in-None : goal.returns-in-None
returns-in-None c =
    turned_at c.args.below.now c.args.top c.next.new.self (length c.args.below.now) c.args.room.now c.turn_out.new.below c.turn_out.result
    c.in-None.ensures.0 c.in-None.ensures.1 (c.turn_out.ensures c.args.room.now)
