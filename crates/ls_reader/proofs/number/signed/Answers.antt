use Rattle.std.proofs.Common.{arith}
use Rattle.std.proofs.lemmas.Int.{to_z_pos}
use mir.Syntax.{w128}
use Rattle.ls_reader.proofs.NumberLemmas.{negated}
use Rattle.ls_reader.proofs.number.signed.Goals as goal

pub returns-then-negative : goal.returns-then-negative
returns-then-negative c = rw c.if-negative.true (negated c.args.size c.requires)

pub returns-else-negative : goal.returns-else-negative
returns-else-negative c = rw c.if-negative.false (to_z_pos w128 c.args.size (omega (arith, c.requires)))
