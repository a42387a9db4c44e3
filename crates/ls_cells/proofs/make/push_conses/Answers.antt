use Rattle.std.proofs.Common.{arith, ap, refl, sym, ◌∙◌}
use Rattle.std.specs.Option.{option_copied}
use Rattle.ls_intern.specs.Places.{specifiers_at}
use Rattle.ls_memo.specs.Kept.{kept_for}
use Rattle.ls_cells.proofs.MakeLemmas.{atoms_count, pair_some, pairs_within, cars_none, cdrs_none, cars_cells, cdrs_cells, adds_pairs}
use Rattle.ls_cells.proofs.make.push_conses.Goals as goal

pub returns-in_err-push_cons-clause-most : goal.returns-in_err-push_cons-clause-most
returns-in_err-push_cons-clause-most g c = λ structures list codes m. let h = pair_some list in let k = c.push_cons.ensures.most in omega arith

pub returns-in_default-clause-most : goal.returns-in_default-clause-most
returns-in_default-clause-most g c = λ structures list codes m. let h = pair_some list in let k = c.push_cons.ensures.most in omega arith

pub returns-in_err-push_cons-2-clause-most : goal.returns-in_err-push_cons-2-clause-most
returns-in_err-push_cons-2-clause-most g c = λ structures list codes m. let h = pair_some list in let k = c.push_cons-in_default-get.ensures.most in omega arith

pub returns-in_default-get-clause-most : goal.returns-in_default-get-clause-most
returns-in_default-get-clause-most g c = λ structures list codes m. let h = pair_some list in let k = c.push_cons-in_default-get.ensures.most in omega arith

pub returns-in_default-clause-rows : goal.returns-in_default-clause-rows
returns-in_default-clause-rows g c = λ structures learnt list codes m l. c.in_ok-push_cons.ensures.rows structures learnt list (atoms_count structures c.args.table.now list c.args.sides.now.atoms c.args.sides.now.cars c.args.sides.now.cdrs c.as_slice-atoms.result.now codes c.args.memo.now _ m c.as_slice-atoms.ensures refl) (cars_none structures c.args.table.now list c.args.sides.now.atoms c.args.sides.now.cars c.args.sides.now.cdrs codes c.args.memo.now m (ap (λ k. kept_for k c.args.memo.now) (sym c.as_slice.ensures) ∙ sym c.get.ensures ∙ ap option_copied c.in_default.is))

pub returns-in_default-get-clause-rows : goal.returns-in_default-get-clause-rows
returns-in_default-get-clause-rows g c = λ structures learnt list codes m l. c.in_ok-push_cons-2.ensures.rows structures learnt list (atoms_count structures c.args.table.now list c.args.sides.now.atoms c.args.sides.now.cars c.args.sides.now.cdrs c.as_slice-atoms.result.now codes c.args.memo.now _ m c.as_slice-atoms.ensures refl) (cdrs_none structures c.args.table.now list c.args.sides.now.atoms c.args.sides.now.cars c.args.sides.now.cdrs codes c.args.memo.now m (ap (λ k. kept_for k c.args.memo.now) (sym c.as_slice-2.ensures) ∙ sym c.get-2.ensures ∙ ap option_copied c.in_default-get.is))

pub returns-in_err-push_pairs-clause-most : goal.returns-in_err-push_pairs-clause-most
returns-in_err-push_pairs-clause-most g c = λ structures list codes m. let h = pairs_within structures c.args.table.now list c.args.sides.now.atoms c.args.sides.now.cars c.args.sides.now.cdrs codes c.args.memo.now _ _ m (ap (λ k. kept_for k c.args.memo.now) (sym c.as_slice.ensures) ∙ sym c.get.ensures ∙ ap option_copied c.in-Some.is) (ap (λ k. kept_for k c.args.memo.now) (sym c.as_slice-2.ensures) ∙ sym c.get-2.ensures ∙ ap option_copied c.in-Some-get.is) in let k = c.push_pairs.ensures.most in omega arith

pub returns-clause-most : goal.returns-clause-most
returns-clause-most g c = λ structures list codes m. let h = pairs_within structures c.args.table.now list c.args.sides.now.atoms c.args.sides.now.cars c.args.sides.now.cdrs codes c.args.memo.now _ _ m (ap (λ k. kept_for k c.args.memo.now) (sym c.as_slice.ensures) ∙ sym c.get.ensures ∙ ap option_copied c.in-Some.is) (ap (λ k. kept_for k c.args.memo.now) (sym c.as_slice-2.ensures) ∙ sym c.get-2.ensures ∙ ap option_copied c.in-Some-get.is) in let k = c.push_pairs.ensures.most in omega arith

pub returns-clause-rows : goal.returns-clause-rows
returns-clause-rows g c = λ structures learnt list codes m l. adds_pairs structures learnt c.args.table.now list c.args.sides.now.atoms c.args.sides.now.cars c.args.sides.now.cdrs codes c.args.memo.now c.in-Some.cars.now c.in-Some-get.cdrs.now _ _ m (cars_cells structures c.args.table.now list c.args.sides.now.atoms c.args.sides.now.cars c.args.sides.now.cdrs codes c.args.memo.now c.in-Some.cars.now m (ap (λ k. kept_for k c.args.memo.now) (sym c.as_slice.ensures) ∙ sym c.get.ensures ∙ ap option_copied c.in-Some.is)) (cdrs_cells structures c.args.table.now list c.args.sides.now.atoms c.args.sides.now.cars c.args.sides.now.cdrs codes c.args.memo.now c.in-Some-get.cdrs.now m (ap (λ k. kept_for k c.args.memo.now) (sym c.as_slice-2.ensures) ∙ sym c.get-2.ensures ∙ ap option_copied c.in-Some-get.is)) l (λ e f h i j. c.in_ok-push_pairs.ensures.rows structures learnt list (ap (specifiers_at c.args.table.now) c.as_slice-atoms.ensures ∙ e) f h i j)
