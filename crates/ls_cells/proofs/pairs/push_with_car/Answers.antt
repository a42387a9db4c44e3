use Rattle.std.proofs.Common.{arith}
use Rattle.ls_cells.proofs.CrossLemmas.{crosses_cdr_more}
use Rattle.ls_cells.proofs.pairs.push_with_car.Goals as goal

pub loop-cdr-preserved : goal.loop-cdr-preserved
loop-cdr-preserved g c = record {
  rises = omega (arith, c.loop-cdr.invariant.rises, c.in_ok-push_pair.ensures.rises);
  most = omega (arith, c.loop-cdr.invariant.most, c.in_ok-push_pair.ensures.most);
  fewer = omega (arith, c.loop-cdr.invariant.fewer, c.in_ok-push_pair.ensures.fewer);
  long = λ h. c.in_ok-push_pair.ensures.long (c.loop-cdr.invariant.long h);
  crosses =
      crosses_cdr_more c.args.car.now c.args.cdrs.now c.loop-cdr.cdr-index c.cdr-item.result c.args.rows.now c.loop-cdr.rows c.push_pair.new.rows c.loop-cdr-test.true c.cdr-item.is c.loop-cdr.invariant.crosses
      c.in_ok-push_pair.ensures.rows;
}
