use Rattle.std.proofs.Common.{◌∙◌, arith, sym, subst}
use Rattle.ls_intern.specs.Places.{specifiers_at}
use Rattle.ls_cells.specs.steps.Halves.{ArePartColumns}
use Rattle.ls_cells.proofs.HalfLemmas.{halves_more, halves_all}
use Rattle.ls_cells.proofs.RaiseLemmas.{turned_at, turned_count}
use Rattle.ls_cells.proofs.half.halves.Goals as goal

pub half_at-requires-clause-values : goal.half_at-requires-clause-values
half_at-requires-clause-values c =
    omega (arith, c.loop-i-test.true, turned_count c.as_slice.result.now c.as_slice-values.result.now c.len-count.result (c.as_slice-values.ensures ∙ c.in_ok-values.ensures))

pub loop-i-preserved : goal.loop-i-preserved
loop-i-preserved c =
    let those = specifiers_at c.args.table.now c.args.cells.now.atoms in
    let atoms = specifiers_at c.args.table.now c.args.atoms.now in
    let rows = c.args.cells.now.rows in
    let columns = subst (ArePartColumns c.args.side those rows atoms) (sym c.as_slice.ensures) c.in_ok-columns.ensures in
    let signs = turned_at c.as_slice.result.now c.as_slice-values.result.now c.len-count.result c.loop-i.i c.in_ok-half.half.signs (c.as_slice-values.ensures ∙ c.in_ok-values.ensures) c.in_ok-half.ensures.signs in
    halves_more c.args.side those atoms rows c.as_slice.result.now c.loop-i.i c.loop-i.halves.items c.push.new.self.items c.in_ok-half.half (omega (arith, c.loop-i-test.true, c.len-count.ensures.len)) columns c.loop-i.invariant
    c.in_ok-half.ensures.object c.in_ok-half.ensures.plain signs c.in_ok-push.ensures.items

pub returns : goal.returns
returns c =
    halves_all c.args.side (specifiers_at c.args.table.now c.args.cells.now.atoms) (specifiers_at c.args.table.now c.args.atoms.now) c.args.cells.now.rows c.loop-i.halves.items c.loop-i.i
    (omega (arith, c.loop-i-test.false, c.len-count.ensures.len)) c.loop-i.invariant
