use Rattle.std.proofs.Common.{◌≡◌, arith, length, subst, sym}
use Rattle.ls_spec.proofs.ListLemmas.{AllByRecursion-at}
use Rattle.ls_cells.specs.Rows.{AreLong}
use Rattle.ls_cells.proofs.CrossLemmas.{crosses_car_more, factor_next}
use Rattle.ls_cells.proofs.pairs.push_crossed.Goals as goal

pub loop-car-preserved : goal.loop-car-preserved
loop-car-preserved g c = record {
  rises = omega (arith, c.loop-car.invariant.rises, c.in_ok-push_with_car.ensures.rises);
  most = omega (arith, c.loop-car.invariant.most, c.in_ok-push_with_car.ensures.most, factor_next c.loop-car.car-index (length c.args.cdrs.now));
  fewer = omega (arith, c.loop-car.invariant.fewer, c.in_ok-push_with_car.ensures.fewer);
  long = λ n these h.
      subst (λ m. AreLong m c.loop-car.rows → AreLong m c.push_with_car.new.rows) (AllByRecursion-at (λ r. length r.signs ≡ n) c.args.cars.now c.car-item.result c.loop-car.car-index these c.loop-car-test.true (sym c.car-item.is))
      c.in_ok-push_with_car.ensures.long (c.loop-car.invariant.long n these h);
  crosses =
      crosses_car_more c.args.cars.now c.loop-car.car-index c.car-item.result c.args.cdrs.now c.args.rows.now c.loop-car.rows c.push_with_car.new.rows c.loop-car-test.true c.car-item.is c.loop-car.invariant.crosses
      c.in_ok-push_with_car.ensures.rows;
}

pub returns-in_err-push_with_car-clause-long : goal.returns-in_err-push_with_car-clause-long
returns-in_err-push_with_car-clause-long g c = λ n these h.
    subst (λ m. AreLong m c.loop-car.rows → AreLong m c.push_with_car.new.rows) (AllByRecursion-at (λ r. length r.signs ≡ n) c.args.cars.now c.car-item.result c.loop-car.car-index these c.loop-car-test.true (sym c.car-item.is))
    c.push_with_car.ensures.long (c.loop-car.invariant.long n these h)
