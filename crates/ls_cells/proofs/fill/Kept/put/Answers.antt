use Rattle.std.proofs.Common.{arith, ap, sym, ◌∙◌, ◌++◌, ◌∷◌, [], length}
use Rattle.ls_intern.specs.Places.{specifiers_at}
use Rattle.ls_cells.proofs.EntryLemmas.{counted_more, rows_more}
use Rattle.ls_cells.proofs.FillLemmas.{made_cells}
use Rattle.ls_cells.proofs.MakeLemmas.{part_enough}
use Rattle.ls_cells.proofs.fill.Kept.put.Goals as goal

pub make-requires : goal.make-requires
make-requires g c = ((specifiers_at c.args.table.now c.args.list.now), c.requires.may)

pub returns-in_err-rows-clause-most : goal.returns-in_err-rows-clause-most
returns-in_err-rows-clause-most g c =
    let m = c.make.ensures.most (specifiers_at c.args.table.now c.args.list.now) c.requires.may in
    let p = part_enough (specifiers_at c.args.table.now c.args.list.now) in
    omega arith

pub returns-in_err-cells-clause-most : goal.returns-in_err-cells-clause-most
returns-in_err-cells-clause-most g c =
    let m = c.make.ensures.most (specifiers_at c.args.table.now c.args.list.now) c.requires.may in
    let p = part_enough (specifiers_at c.args.table.now c.args.list.now) in
    omega arith

pub returns-in_err-key-clause-most : goal.returns-in_err-key-clause-most
returns-in_err-key-clause-most g c =
    let m = c.make.ensures.most (specifiers_at c.args.table.now c.args.list.now) c.requires.may in
    let p = part_enough (specifiers_at c.args.table.now c.args.list.now) in
    omega arith

pub returns-in_err-put-clause-most : goal.returns-in_err-put-clause-most
returns-in_err-put-clause-most g c =
    let m = c.make.ensures.most (specifiers_at c.args.table.now c.args.list.now) c.requires.may in
    let p = part_enough (specifiers_at c.args.table.now c.args.list.now) in
    omega arith

pub returns-clause-most : goal.returns-clause-most
returns-clause-most g c =
    let m = c.make.ensures.most (specifiers_at c.args.table.now c.args.list.now) c.requires.may in
    let p = part_enough (specifiers_at c.args.table.now c.args.list.now) in
    omega arith

pub returns-clause-ok : goal.returns-clause-ok
returns-clause-ok g c =
    let cells = made_cells c.args.structures.now c.args.table.now (specifiers_at c.args.table.now c.args.list.now) c.args.sides.atoms c.args.sides.cars c.args.sides.cdrs c.args.codes.now c.args.self.now.memo c.in_ok-rows.rows c.in_ok-cells.cells c.args.steps.now c.make.new.steps c.requires.may (λ learnt l. c.in_ok-rows.ensures.rows learnt (specifiers_at c.args.table.now c.args.list.now) c.requires.may l) c.len-count.ensures.different c.in_ok-rows.ensures.fewer (c.make.ensures.most (specifiers_at c.args.table.now c.args.list.now) c.requires.may) c.in_ok-cells.ensures.atoms c.in_ok-cells.ensures.rows in
    record { made = c.in_ok-cells.cells; put = c.in_ok-put.ensures.ok ∙ ap (λ l. c.args.self.now.memo ++ (l, c.in_ok-cells.cells) ∷ []) c.in_ok-key.ensures; right = cells }

pub returns-clause-counted : goal.returns-clause-counted
returns-clause-counted g c = counted_more c.args.table.now c.args.self.now.memo _ c.args.list.now c.in_ok-cells.cells _ c.len-count.result _ c.requires.counted (c.in_ok-put.ensures.ok ∙ ap (λ l. c.args.self.now.memo ++ (l, c.in_ok-cells.cells) ∷ []) c.in_ok-key.ensures) (c.len-count.ensures.len ∙ ap length (sym c.in_ok-cells.ensures.rows)) c.saturating_add-self.ensures

pub returns-clause-rows : goal.returns-clause-rows
returns-clause-rows g c = rows_more c.args.table.now c.args.self.now.memo _ c.args.list.now c.in_ok-cells.cells c.args.steps.now c.make.new.steps (c.in_ok-put.ensures.ok ∙ ap (λ l. c.args.self.now.memo ++ (l, c.in_ok-cells.cells) ∷ []) c.in_ok-key.ensures) (let e = ap length c.in_ok-cells.ensures.rows in let f = c.in_ok-rows.ensures.fewer in omega arith)
