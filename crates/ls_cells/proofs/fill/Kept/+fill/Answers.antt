use Rattle.std.proofs.Common.{arith, ap, sym, ◌∙◌}
use Rattle.std.specs.Option.{option_copied}
use Rattle.ls_intern.specs.Places.{specifiers_at}
use Rattle.ls_cells.specs.Codes.{codes_of}
use Rattle.ls_cells.proofs.EntryLemmas.{not_done, is_some, is_empty_list, done_empty, done_before}
use Rattle.ls_cells.proofs.FillLemmas.{fills_none, fills_cars, fills_cdrs, fills_own, fills_all, walked_done, walked_all, absent_after, may_make, cars_at, cdrs_at, cars_lower, cdrs_lower, cars_fit, cdrs_fit, cars_coded, cdrs_coded}
use Rattle.ls_cells.proofs.fill.Kept.+fill.Goals as goal

pub returns-then-is_empty-clause-fills : goal.returns-then-is_empty-clause-fills
returns-then-is_empty-clause-fills g t c = fills_none c.args.structures.now c.args.table.now _ c.args.self.now.memo c.args.steps.now c.requires.kept

pub returns-then-is_empty-clause-all : goal.returns-then-is_empty-clause-all
returns-then-is_empty-clause-all g t c = walked_done c.args.table.now (specifiers_at c.args.table.now c.args.list.now) c.args.self.now.memo (done_empty c.args.table.now (specifiers_at c.args.table.now c.args.list.now) c.args.self.now.memo (is_empty_list c.args.table.now c.args.list.now c.is_empty.result c.is_empty.ensures c.if-is_empty.true))

pub returns-in-Some-clause-fills : goal.returns-in-Some-clause-fills
returns-in-Some-clause-fills g t c = fills_none c.args.structures.now c.args.table.now _ c.args.self.now.memo c.args.steps.now c.requires.kept

pub returns-in-Some-clause-all : goal.returns-in-Some-clause-all
returns-in-Some-clause-all g t c = walked_done c.args.table.now (specifiers_at c.args.table.now c.args.list.now) c.args.self.now.memo (done_before c.args.table.now c.args.list.now c.args.self.now.memo _ (sym c.get.ensures ∙ ap option_copied c.in-Some.is))

pub returns-in_err-sides-clause-fills : goal.returns-in_err-sides-clause-fills
returns-in_err-sides-clause-fills g t c = fills_none c.args.structures.now c.args.table.now _ c.args.self.now.memo c.args.steps.now c.requires.kept

pub fill-requires : goal.fill-requires
fill-requires g t c κs within =
    let cars = (cars_at c.args.table.now (specifiers_at c.args.table.now c.args.list.now) c.in_ok-sides.sides.atoms c.in_ok-sides.sides.cars c.in_ok-sides.sides.cdrs c.as_slice.result.now c.in_ok-sides.ensures c.as_slice.ensures) in
    let h = cars_lower c.args.table.now (specifiers_at c.args.table.now c.args.list.now) c.as_slice.result.now (is_some c.args.table.now c.args.list.now c.is_empty.result c.is_empty.ensures c.if-is_empty.false) cars.0 in
    let f = cars_fit c.args.structures.now c.args.table.now (specifiers_at c.args.table.now c.args.list.now) c.as_slice.result.now cars.0 c.requires.fit in
    let k = cars_coded c.args.table.now (specifiers_at c.args.table.now c.args.list.now) c.as_slice.result.now (codes_of c.args.table.now c.args.codes.now) cars.0 c.requires.learnt in
    (omega (arith, c.decreases), (within, (cars.1, (f, (c.requires.codes, (k, (c.requires.kept, c.requires.counted)))))))

pub fill-requires-2 : goal.fill-requires-2
fill-requires-2 g t c κs within =
    let cdrs = (cdrs_at c.args.table.now (specifiers_at c.args.table.now c.args.list.now) c.in_ok-sides.sides.atoms c.in_ok-sides.sides.cars c.in_ok-sides.sides.cdrs c.as_slice-2.result.now c.in_ok-sides.ensures c.as_slice-2.ensures) in
    let h = cdrs_lower c.args.table.now (specifiers_at c.args.table.now c.args.list.now) c.as_slice-2.result.now (is_some c.args.table.now c.args.list.now c.is_empty.result c.is_empty.ensures c.if-is_empty.false) cdrs.0 in
    let f = cdrs_fit c.args.structures.now c.args.table.now (specifiers_at c.args.table.now c.args.list.now) c.as_slice-2.result.now cdrs.0 c.requires.fit in
    let k = cdrs_coded c.args.table.now (specifiers_at c.args.table.now c.args.list.now) c.as_slice-2.result.now (codes_of c.args.table.now c.args.codes.now) cdrs.0 c.requires.learnt in
    (omega (arith, c.decreases), (within, (cdrs.1, (f, (c.requires.codes, (k, (c.fill.ensures.fills.kept, c.fill.ensures.counted)))))))

pub returns-in_err-fill-clause-fills : goal.returns-in_err-fill-clause-fills
returns-in_err-fill-clause-fills g t c = fills_cars c.args.structures.now c.args.table.now (specifiers_at c.args.table.now c.args.list.now) c.as_slice.result.now c.args.self.now.memo c.fill.new.self.memo c.args.steps.now c.fill.new.steps (not_done c.args.structures.now c.args.table.now c.len-distinct.ensures.distinct c.args.list.now c.args.self.now.memo c.requires.below c.requires.kept (is_some c.args.table.now c.args.list.now c.is_empty.result c.is_empty.ensures c.if-is_empty.false) (sym c.get.ensures ∙ ap option_copied c.in_default.is)) (cars_at c.args.table.now (specifiers_at c.args.table.now c.args.list.now) c.in_ok-sides.sides.atoms c.in_ok-sides.sides.cars c.in_ok-sides.sides.cdrs c.as_slice.result.now c.in_ok-sides.ensures c.as_slice.ensures).0 c.fill.ensures.fills

pub returns-in_err-fill-2-clause-fills : goal.returns-in_err-fill-2-clause-fills
returns-in_err-fill-2-clause-fills g t c = fills_cdrs c.args.structures.now c.args.table.now (specifiers_at c.args.table.now c.args.list.now) c.as_slice.result.now c.as_slice-2.result.now c.args.self.now.memo c.fill.new.self.memo c.fill-2.new.self.memo c.args.steps.now c.fill.new.steps c.fill-2.new.steps (not_done c.args.structures.now c.args.table.now c.len-distinct.ensures.distinct c.args.list.now c.args.self.now.memo c.requires.below c.requires.kept (is_some c.args.table.now c.args.list.now c.is_empty.result c.is_empty.ensures c.if-is_empty.false) (sym c.get.ensures ∙ ap option_copied c.in_default.is)) (cars_at c.args.table.now (specifiers_at c.args.table.now c.args.list.now) c.in_ok-sides.sides.atoms c.in_ok-sides.sides.cars c.in_ok-sides.sides.cdrs c.as_slice.result.now c.in_ok-sides.ensures c.as_slice.ensures).0 (cdrs_at c.args.table.now (specifiers_at c.args.table.now c.args.list.now) c.in_ok-sides.sides.atoms c.in_ok-sides.sides.cars c.in_ok-sides.sides.cdrs c.as_slice-2.result.now c.in_ok-sides.ensures c.as_slice-2.ensures).0 c.fill.ensures.fills c.in_ok-fill.ensures.all c.fill-2.ensures.fills

pub put-requires : goal.put-requires
put-requires g t c =
    let cars = (cars_at c.args.table.now (specifiers_at c.args.table.now c.args.list.now) c.in_ok-sides.sides.atoms c.in_ok-sides.sides.cars c.in_ok-sides.sides.cdrs c.as_slice.result.now c.in_ok-sides.ensures c.as_slice.ensures) in
    let cdrs = (cdrs_at c.args.table.now (specifiers_at c.args.table.now c.args.list.now) c.in_ok-sides.sides.atoms c.in_ok-sides.sides.cars c.in_ok-sides.sides.cdrs c.as_slice-2.result.now c.in_ok-sides.ensures c.as_slice-2.ensures) in
    let may = may_make c.args.structures.now c.args.table.now (specifiers_at c.args.table.now c.args.list.now) c.in_ok-sides.sides.atoms c.in_ok-sides.sides.cars c.in_ok-sides.sides.cdrs c.as_slice.result.now c.as_slice-2.result.now c.args.codes.now c.args.self.now.memo c.fill.new.self.memo c.fill-2.new.self.memo c.fill.new.steps c.fill-2.new.steps c.len-distinct.ensures.distinct (is_some c.args.table.now c.args.list.now c.is_empty.result c.is_empty.ensures c.if-is_empty.false) c.requires.fit c.requires.codes c.requires.learnt c.in_ok-sides.ensures c.requires.kept c.as_slice.ensures c.as_slice-2.ensures c.in_ok-fill.ensures.all c.fill-2.ensures.fills c.in_ok-fill-2.ensures.all in
    let absent = absent_after c.args.table.now c.args.list.now c.as_slice.result.now c.as_slice-2.result.now c.args.self.now.memo c.fill.new.self.memo c.fill-2.new.self.memo (not_done c.args.structures.now c.args.table.now c.len-distinct.ensures.distinct c.args.list.now c.args.self.now.memo c.requires.below c.requires.kept (is_some c.args.table.now c.args.list.now c.is_empty.result c.is_empty.ensures c.if-is_empty.false) (sym c.get.ensures ∙ ap option_copied c.in_default.is)) cars.0 cdrs.0 c.in_ok-fill.ensures.all c.in_ok-fill-2.ensures.all in
    record { may = may; counted = c.fill-2.ensures.counted; absent = absent }

pub returns-in_err-put-clause-fills : goal.returns-in_err-put-clause-fills
returns-in_err-put-clause-fills g t c = fills_own c.args.structures.now c.args.table.now (specifiers_at c.args.table.now c.args.list.now) c.as_slice.result.now c.as_slice-2.result.now c.args.self.now.memo c.fill.new.self.memo c.fill-2.new.self.memo c.put.new.self.memo c.args.steps.now c.fill.new.steps c.fill-2.new.steps c.put.new.steps (not_done c.args.structures.now c.args.table.now c.len-distinct.ensures.distinct c.args.list.now c.args.self.now.memo c.requires.below c.requires.kept (is_some c.args.table.now c.args.list.now c.is_empty.result c.is_empty.ensures c.if-is_empty.false) (sym c.get.ensures ∙ ap option_copied c.in_default.is)) (cars_at c.args.table.now (specifiers_at c.args.table.now c.args.list.now) c.in_ok-sides.sides.atoms c.in_ok-sides.sides.cars c.in_ok-sides.sides.cdrs c.as_slice.result.now c.in_ok-sides.ensures c.as_slice.ensures).0 (cdrs_at c.args.table.now (specifiers_at c.args.table.now c.args.list.now) c.in_ok-sides.sides.atoms c.in_ok-sides.sides.cars c.in_ok-sides.sides.cdrs c.as_slice-2.result.now c.in_ok-sides.ensures c.as_slice-2.ensures).0 c.fill.ensures.fills c.in_ok-fill.ensures.all c.fill-2.ensures.fills c.in_ok-fill-2.ensures.all c.put.ensures.rises c.put.ensures.most c.in_err-put.ensures.err

pub returns-clause-fills : goal.returns-clause-fills
returns-clause-fills g t c = fills_all c.args.structures.now c.args.table.now c.args.list.now c.as_slice.result.now c.as_slice-2.result.now c.args.self.now.memo c.fill.new.self.memo c.fill-2.new.self.memo c.put.new.self.memo c.args.steps.now c.fill.new.steps c.fill-2.new.steps c.put.new.steps c.requires.below c.requires.kept (not_done c.args.structures.now c.args.table.now c.len-distinct.ensures.distinct c.args.list.now c.args.self.now.memo c.requires.below c.requires.kept (is_some c.args.table.now c.args.list.now c.is_empty.result c.is_empty.ensures c.if-is_empty.false) (sym c.get.ensures ∙ ap option_copied c.in_default.is)) (cars_at c.args.table.now (specifiers_at c.args.table.now c.args.list.now) c.in_ok-sides.sides.atoms c.in_ok-sides.sides.cars c.in_ok-sides.sides.cdrs c.as_slice.result.now c.in_ok-sides.ensures c.as_slice.ensures).0 (cdrs_at c.args.table.now (specifiers_at c.args.table.now c.args.list.now) c.in_ok-sides.sides.atoms c.in_ok-sides.sides.cars c.in_ok-sides.sides.cdrs c.as_slice-2.result.now c.in_ok-sides.ensures c.as_slice-2.ensures).0 c.fill.ensures.fills c.in_ok-fill.ensures.all c.fill-2.ensures.fills c.in_ok-fill-2.ensures.all c.put.ensures.rises c.put.ensures.most c.put.ensures.rows c.in_ok-put.ensures.ok

pub returns-clause-all : goal.returns-clause-all
returns-clause-all g t c = walked_all c.args.structures.now c.args.table.now c.args.list.now c.as_slice.result.now c.as_slice-2.result.now c.args.self.now.memo c.fill.new.self.memo c.fill-2.new.self.memo c.put.new.self.memo (not_done c.args.structures.now c.args.table.now c.len-distinct.ensures.distinct c.args.list.now c.args.self.now.memo c.requires.below c.requires.kept (is_some c.args.table.now c.args.list.now c.is_empty.result c.is_empty.ensures c.if-is_empty.false) (sym c.get.ensures ∙ ap option_copied c.in_default.is)) (cars_at c.args.table.now (specifiers_at c.args.table.now c.args.list.now) c.in_ok-sides.sides.atoms c.in_ok-sides.sides.cars c.in_ok-sides.sides.cdrs c.as_slice.result.now c.in_ok-sides.ensures c.as_slice.ensures).0 (cdrs_at c.args.table.now (specifiers_at c.args.table.now c.args.list.now) c.in_ok-sides.sides.atoms c.in_ok-sides.sides.cars c.in_ok-sides.sides.cdrs c.as_slice-2.result.now c.in_ok-sides.ensures c.as_slice-2.ensures).0 c.in_ok-fill.ensures.all c.in_ok-fill-2.ensures.all c.in_ok-put.ensures.ok
