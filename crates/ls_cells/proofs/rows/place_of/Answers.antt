use Rattle.ls_cells.proofs.FindLemmas.{place_is, none_more, none_at_all}
use Rattle.ls_cells.proofs.rows.place_of.Goals as goal

pub rows-preserved : goal.rows-preserved
rows-preserved c = none_more c.args.rows.now c.rows.i c.index-rows-i.result c.args.signs.now c.eq.result c.rows-test.true c.eq.ensures c.if-eq.false c.rows.invariant

pub returns-then-eq : goal.returns-then-eq
returns-then-eq c = place_is c.args.rows.now c.rows.i c.index-rows-i.result c.args.signs.now c.eq.result c.rows-test.true c.eq.ensures c.if-eq.true

pub returns : goal.returns
returns c = none_at_all c.args.rows.now c.rows.i c.args.signs.now c.rows-test.false c.rows.invariant
