use Rattle.ls_cells.proofs.BitLemmas.{full_below, full_at, full_above}
use Rattle.ls_cells.proofs.words.full_word.Goals as goal

pub returns-then-k-full : goal.returns-then-k-full
returns-then-k-full c = full_below c.args.len c.args.k c.if-k-full.true

pub returns-then-full-k : goal.returns-then-full-k
returns-then-full-k c = full_above c.args.len c.args.k c.if-full-k.true

pub returns : goal.returns
returns c = full_at c.args.len c.args.k c.if-k-full.false c.if-full-k.false
