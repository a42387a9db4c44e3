use Rattle.std.proofs.Common.{◌<◌, arith, ap, sym, ◌∙◌, subst, length}
use Rattle.std.proofs.lemmas.List.{length-set}
use Rattle.ls_object.specs.Universe.{IsPlain}
use Rattle.ls_cells.specs.declared.rows.Row.{Row}
use Rattle.ls_cells.proofs.AddLemmas.{fewer_with, long_with}
use Rattle.ls_cells.proofs.DoubleLemmas.{no_marks, marks_more, marks_within, marks_all, long_at}
use Rattle.ls_cells.proofs.marks.double.Goals as goal

pub loop-i-init : goal.loop-i-init
loop-i-init g c = record { rises = omega arith; most = omega arith; fewer = omega arith; long = λ n h. h; marks = no_marks c.args.place c.args.rows.now }

pub row-requires : goal.row-requires
row-requires g c = marks_within c.args.place c.loop-i.i c.loop-i.i c.args.rows.now c.loop-i.rows c.loop-i.invariant.marks (omega (arith, c.loop-i-test.true, c.len-i-end.ensures.len))

pub marked-requires : goal.marked-requires
marked-requires g c =
    let l = long_at c.requires.0 c.loop-i.rows c.loop-i.i c.row.result.now c.row.ensures.row (c.loop-i.invariant.long c.requires.0 c.requires.1) in
    omega (arith, l, c.requires.2)

pub add-requires : goal.add-requires
add-requires g c = subst IsPlain (sym c.in_ok-row.ensures.object) c.row.ensures.plain

pub loop-i-preserved : goal.loop-i-preserved
loop-i-preserved g c =
    let row : Row = c.in_ok-row.row in
    let within : c.loop-i.i < length c.args.rows.now = omega (arith, c.loop-i-test.true, c.len-i-end.ensures.len) in
    record {
      rises = omega (arith, c.loop-i.invariant.rises, c.in_ok-add.ensures.step);
      most = omega (arith, c.loop-i.invariant.most, c.in_ok-add.ensures.step);
      fewer = omega (arith, c.loop-i.invariant.fewer, c.in_ok-add.ensures.step, fewer_with c.loop-i.rows c.add.new.self row c.in_ok-add.field-0 c.in_ok-add.ensures.rows);
      long = λ n h. long_with n c.loop-i.rows c.add.new.self row c.in_ok-add.field-0 c.in_ok-add.ensures.rows
          (ap length c.in_ok-row.ensures.signs ∙ length-set c.row.result.now.signs c.args.place _ ∙ long_at n c.loop-i.rows c.loop-i.i c.row.result.now c.row.ensures.row (c.loop-i.invariant.long n h))
          (c.loop-i.invariant.long n h);
      marks = marks_more c.args.place c.loop-i.i c.args.rows.now c.loop-i.rows c.add.new.self c.row.result.now row c.in_ok-add.field-0
          within c.row.ensures.row c.in_ok-row.ensures c.in_ok-add.ensures.fresh c.in_ok-add.ensures.rows c.loop-i.invariant.marks;
    }

pub returns-clause-marks : goal.returns-clause-marks
returns-clause-marks g c = marks_all c.args.place c.loop-i.i (length c.args.rows.now) c.args.rows.now c.loop-i.rows (omega (arith, c.loop-i-test.false, c.len-i-end.ensures.len)) c.loop-i.invariant.marks
