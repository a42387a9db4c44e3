use Rattle.ls_cells.proofs.BitLemmas.{negated_is}
use Rattle.ls_cells.proofs.words.negated_word.Goals as goal

pub returns-clause-bits : goal.returns-clause-bits
returns-clause-bits c = negated_is c.args.len c.args.k c.args.word c.full_word.result c.ranges.word.fits c.full_word.ensures
