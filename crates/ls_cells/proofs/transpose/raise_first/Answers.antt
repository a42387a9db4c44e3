use Rattle.std.proofs.Common.{◌&&◌, ◌+◌, ◌*◌, arith, sym, subst, nat_lt}
use Rattle.ls_cells.specs.Signs.{at}
use Rattle.ls_cells.specs.steps.Turning.{Raises}
use Rattle.ls_cells.proofs.RaiseLemmas.{block_skipped, block_raised, blocks_none, blocks_all}
use Rattle.ls_cells.proofs.transpose.raise_first.Goals.{then-not-is_clear_block, else-not-is_clear_block}
use Rattle.ls_cells.proofs.transpose.raise_first.Goals as goal

pub loop-block-init : goal.loop-block-init
loop-block-init c = blocks_none (at c.args.list.now) c.args.count c.args.k c.args.columns.now.items

pub loop-block-preserved : goal.loop-block-preserved
loop-block-preserved c = elim c.if-not-is_clear_block.branch [
  | then-not-is_clear_block w ↦ subst (λ v. Raises (λ m. nat_lt m ((c.loop-block.block + 1) * 64) && (nat_lt m c.args.count && at c.args.list.now m)) c.args.k c.args.columns.now.items v.items) (sym w.columns-is)
      (block_raised (at c.args.list.now) c.args.count c.loop-block.block w.block_end.result c.args.k c.args.columns.now.items c.loop-block.columns.items w.raise_between.new.columns.items
      w.block_end.ensures.within w.block_end.ensures.most w.block_end.ensures.end c.loop-block.invariant w.raise_between.ensures)
  | else-not-is_clear_block w ↦ subst (λ v. Raises (λ m. nat_lt m ((c.loop-block.block + 1) * 64) && (nat_lt m c.args.count && at c.args.list.now m)) c.args.k c.args.columns.now.items v.items) (sym w.columns-is)
      (block_skipped (at c.args.list.now) c.args.count c.loop-block.block c.args.k c.args.columns.now.items c.loop-block.columns.items (c.is_clear_block.ensures w.if-not-is_clear_block.false) c.loop-block.invariant)
]

pub returns : goal.returns
returns c =
    blocks_all (at c.args.list.now) c.args.count c.loop-block.block c.args.k c.args.columns.now.items c.loop-block.columns.items (omega (arith, c.loop-block-test.false, c.div_ceil-block-end.ensures)) c.loop-block.invariant
