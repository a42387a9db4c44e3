use Rattle.ls_cells.proofs.BitLemmas.{interval_is}
use Rattle.ls_cells.proofs.words.interval_word.Goals as goal

pub returns-clause-bits : goal.returns-clause-bits
returns-clause-bits c = interval_is c.args.from c.args.to c.args.k c.full_word.result c.full_word-2.result c.full_word-2.type_inv c.full_word.ensures c.full_word-2.ensures
