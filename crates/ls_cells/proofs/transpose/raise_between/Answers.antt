use Rattle.std.proofs.Common.{◌∙◌, ◌&&◌, ◌+◌, arith, sym, subst, nat_lt}
use Rattle.std.specs.Prelude.{nat_le}
use Rattle.ls_cells.specs.Signs.{at}
use Rattle.ls_cells.specs.steps.Turning.{RaisedAt, Raises}
use Rattle.ls_cells.proofs.RaiseLemmas.{between_none, between_raised, between_skipped}
use Rattle.ls_cells.proofs.transpose.raise_between.Goals.{then-get, else-get}
use Rattle.ls_cells.proofs.transpose.raise_between.Goals as goal

pub loop-i-init : goal.loop-i-init
loop-i-init c = record { least = omega arith; most = c.requires.order; raised = between_none (at c.args.list.now) c.args.from c.args.k c.args.columns.now.items }

pub loop-i-preserved : goal.loop-i-preserved
loop-i-preserved c = record {
  least = omega (arith, c.loop-i.invariant.least);
  most = omega (arith, c.loop-i-test.true);
  raised = elim c.if-get.branch [
    | then-get w ↦ between_raised (at c.args.list.now) c.args.from c.loop-i.i c.args.k c.args.columns.now.items c.loop-i.columns.items c.if-get.columns.items c.loop-i.invariant.least
        (sym c.get.ensures ∙ w.if-get.true) (omega (arith, c.loop-i-test.true, c.requires.columns)) (c.requires.long c.loop-i.i (omega (arith, c.loop-i-test.true, c.requires.columns)))
        c.loop-i.invariant.raised (subst (λ v. RaisedAt c.loop-i.i c.args.k c.loop-i.columns.items v.items) (sym w.columns-is) w.raise_at.ensures)
    | else-get w ↦ subst (λ v. Raises (λ m. nat_le c.args.from m && nat_lt m (c.loop-i.i + 1) && at c.args.list.now m) c.args.k c.args.columns.now.items v.items) (sym w.columns-is)
        (between_skipped (at c.args.list.now) c.args.from c.loop-i.i c.args.k c.args.columns.now.items c.loop-i.columns.items (sym c.get.ensures ∙ w.if-get.false) c.loop-i.invariant.raised)
  ];
}

pub returns : goal.returns
returns c =
    subst (λ n. Raises (λ m. nat_le c.args.from m && nat_lt m n && at c.args.list.now m) c.args.k c.args.columns.now.items c.loop-i.columns.items)
    (omega (arith, c.loop-i-test.false, c.loop-i.invariant.most)) c.loop-i.invariant.raised
