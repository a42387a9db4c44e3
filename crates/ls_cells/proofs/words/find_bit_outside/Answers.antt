use Rattle.std.proofs.Common.{arith}
use Rattle.ls_cells.proofs.BitLemmas.{lowest_outside}
use Rattle.ls_cells.proofs.words.find_bit_outside.Goals as goal

pub returns-then-outside-ne0 : goal.returns-then-outside-ne0
returns-then-outside-ne0 c =
    let low = lowest_outside _ _ c.if-outside-ne0.true (omega (arith, c.type_inv.words c.words.k)) (omega (arith, c.type_inv.other c.words.k)) in
    ((c.words-test.true, low.0, low.1), low.2)
