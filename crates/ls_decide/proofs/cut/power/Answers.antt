use Rattle.std.proofs.Common.{arith}
use Rattle.std.proofs.lemmas.Grind.{pow_more}
use Rattle.ls_decide.proofs.cut.power.Goals as goal

pub loop-i-preserved : goal.loop-i-preserved
loop-i-preserved c = let p = pow_more 2 c.loop-i.i in (omega arith, omega arith)
