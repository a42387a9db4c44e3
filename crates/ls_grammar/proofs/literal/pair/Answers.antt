use Rattle.std.proofs.Common.{arith}
use Rattle.ls_grammar.proofs.MakingLemmas.{pair_deep}
use Rattle.ls_grammar.proofs.literal.pair.Goals as goal

pub returns-then-deeper-ge-DEEPEST_CONS : goal.returns-then-deeper-ge-DEEPEST_CONS
returns-then-deeper-ge-DEEPEST_CONS c = λ v w h k.
    pair_deep v w c.args.car c.args.cdr c.args.car_depth c.args.cdr_depth (omega (arith, c.if-deeper-ge-DEEPEST_CONS.true, c.max-deeper.ensures)) h k
