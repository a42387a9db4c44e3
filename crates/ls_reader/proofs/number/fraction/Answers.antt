use Rattle.std.proofs.Common.{◌∙◌, arith}
use Rattle.ls_reader.proofs.NumberLemmas.{fraction_is}
use Rattle.ls_reader.proofs.number.fraction.Goals as goal

pub returns : goal.returns
returns c = c.number.ensures ∙ fraction_is c.args.negative c.args.size c.args.den c.literal.result (omega arith) c.literal.ensures
