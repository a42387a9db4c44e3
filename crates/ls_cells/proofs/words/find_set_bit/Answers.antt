use Rattle.std.proofs.Common.{arith}
use Rattle.ls_cells.proofs.BitLemmas.{lowest_set}
use Rattle.ls_cells.proofs.words.find_set_bit.Goals as goal

pub returns-then-words-k-ne0 : goal.returns-then-words-k-ne0
returns-then-words-k-ne0 c =
    let low = lowest_set _ c.if-words-k-ne0.true (omega (arith, c.type_inv.words c.words.k)) in
    (c.words-test.true, low.0, low.1)
