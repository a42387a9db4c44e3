use Rattle.std.proofs.Common.{◌∷◌, ◌++◌, [], ap, sym, subst, ◌∙◌, length, take_all, length-append, arith}
use Rattle.ls_points.specs.steps.Numbers.{gap_numbers, AreStandIns}
use Rattle.ls_points.proofs.EndLemmas.{rising_at, stands_at}
use Rattle.ls_points.proofs.GapLemmas.{Stands, Stands-first, AreStandIns-whole, count_gap, count_more}
use Rattle.ls_points.proofs.numbers.stand_ins_from.Goals as goal

pub loop-end-init : goal.loop-end-init
loop-end-init c =
    let least = c.args.least in
    let gap = c.numbers_below.result in
    let is = c.in_ok-push_end.ensures ∙ ap (λ xs. xs ++ least ∷ []) (c.in_ok-push_gap.ensures ∙ ap (λ xs. xs ++ gap_numbers gap) c.new-out.ensures.items) in
    let e = ap length is in
    let f = length-append (gap_numbers gap) (least ∷ []) in
    let h = count_gap gap in
    record {
      stands = subst (Stands (least ∷ []) least) (sym is) (Stands-first least gap c.numbers_below.ensures);
      small = c.requires.least;
      rising = c.requires.rest;
      count = omega arith;
    }

pub push_up_to-requires-clause-last : goal.push_up_to-requires-clause-last
push_up_to-requires-clause-last c = c.loop-end.invariant.small

pub push_up_to-requires-clause-end : goal.push_up_to-requires-clause-end
push_up_to-requires-clause-end c = (rising_at c.loop-end.last c.end-item.result c.args.rest.now c.loop-end.end-index c.loop-end-test.true c.end-item.is c.loop-end.invariant.rising).0

pub loop-end-preserved : goal.loop-end-preserved
loop-end-preserved c =
    let end = c.end-item.result in
    let next = rising_at c.loop-end.last end c.args.rest.now c.loop-end.end-index c.loop-end-test.true c.end-item.is c.loop-end.invariant.rising in
    let h = count_more c.loop-end.last end c.loop-end.out.items c.push_up_to.new.out.items c.in_ok-push_up_to.ensures in
    record {
      stands = stands_at c.args.least c.loop-end.last end c.args.rest.now c.loop-end.out.items c.push_up_to.new.out.items c.loop-end.end-index c.loop-end-test.true c.end-item.is next.1 c.loop-end.invariant.stands c.in_ok-push_up_to.ensures;
      small = next.0;
      rising = next.2;
      count = omega (arith, c.loop-end.invariant.count);
    }

pub numbers_above-requires : goal.numbers_above-requires
numbers_above-requires c = c.loop-end.invariant.small

pub returns-clause-law : goal.returns-clause-law
returns-clause-law c =
    let rest = c.args.rest.now in
    let whole = subst (λ xs. Stands (c.args.least ∷ xs) c.loop-end.last c.loop-end.out.items) (take_all c.loop-end.end-index rest c.loop-end-test.false) c.loop-end.invariant.stands in
    subst (AreStandIns (c.args.least ∷ rest)) (sym c.in_ok-push_gap-2.ensures) (AreStandIns-whole (c.args.least ∷ rest) c.loop-end.last c.loop-end.out.items whole c.numbers_above.result c.numbers_above.ensures)

pub returns-clause-count : goal.returns-clause-count
returns-clause-count c =
    let e = ap length c.in_ok-push_gap-2.ensures in
    let f = length-append c.loop-end.out.items (gap_numbers c.numbers_above.result) in
    let h = count_gap c.numbers_above.result in
    omega (arith, c.loop-end.invariant.count)
