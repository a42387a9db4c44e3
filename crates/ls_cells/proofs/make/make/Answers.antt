use Rattle.std.proofs.Common.{◌+◌, ◌*◌, arith, ap, sym, subst, ◌∙◌, map, length, All}
use Rattle.ls_spec.specs.Meaning.{specifier}
use Rattle.ls_spec.specs.Atoms.{atoms_of}
use Rattle.ls_lists.specs.Candidates.{candidates, predicates}
use Rattle.ls_lists.specs.Sides.{cars_of, cdrs_of}
use Rattle.ls_lists.specs.Walks.{rows}
use Rattle.ls_intern.specs.Places.{specifiers_at}
use Rattle.ls_cells.specs.Cells.{IsNoCons, AddsRows}
use Rattle.ls_cells.specs.Codes.{codes_of, HasCodes}
use Rattle.ls_cells.specs.Rows.{AreLong}
use Rattle.ls_cells.proofs.MakeLemmas.{atoms_fit, atoms_coded, flat_most, flat_rows, rows_of_all, marked_most, marked_count, as_many, bare_most}
use Rattle.ls_cells.proofs.make.make.Goals as goal

pub push_flat-requires-clause-fit : goal.push_flat-requires-clause-fit
push_flat-requires-clause-fit g c = atoms_fit c.args.structures.now c.args.table.now c.requires.0 c.args.sides.now.atoms c.args.sides.now.cars c.args.sides.now.cdrs c.args.codes.now c.args.memo.now c.in_ok-atoms.atoms c.requires.1 (c.in_ok-atoms.ensures ∙ ap (specifiers_at c.args.table.now) c.as_slice.ensures)

pub array_atoms-requires-clause-learnt : goal.array_atoms-requires-clause-learnt
array_atoms-requires-clause-learnt g c =
    subst (λ ids. All (HasCodes (codes_of c.args.table.now c.args.codes.now)) (specifiers_at c.args.table.now ids)) (sym c.as_slice-2.ensures)
    (atoms_coded c.args.structures.now c.args.table.now c.requires.0 c.args.sides.now.atoms c.args.sides.now.cars c.args.sides.now.cdrs c.args.codes.now c.args.memo.now c.requires.1)

pub returns-in_err-push_flat-clause-most : goal.returns-in_err-push_flat-clause-most
returns-in_err-push_flat-clause-most g c = λ list m.
    let h = flat_most c.args.table.now list c.args.sides.now.atoms c.in_ok-atoms.atoms _ _ m.sides.atoms_are (c.in_ok-atoms.ensures ∙ ap (specifiers_at c.args.table.now) c.as_slice.ensures) c.push_flat.ensures.most in
    bare_most (predicates list) (candidates list + rows (cars_of list) * rows (cdrs_of list)) c.args.steps.now c.push_flat.new.steps (omega (arith, h))

pub returns-in_err-push_conses-clause-most : goal.returns-in_err-push_conses-clause-most
returns-in_err-push_conses-clause-most g c = λ list m.
    let h = flat_most c.args.table.now list c.args.sides.now.atoms c.in_ok-atoms.atoms _ _ m.sides.atoms_are (c.in_ok-atoms.ensures ∙ ap (specifiers_at c.args.table.now) c.as_slice.ensures) c.push_flat.ensures.most in
    let k = c.push_conses.ensures.most c.args.structures.now list c.args.codes.now m in
    bare_most (predicates list) (candidates list + rows (cars_of list) * rows (cdrs_of list)) c.args.steps.now c.push_conses.new.steps (omega (arith, h, k))

pub push_marks-requires : goal.push_marks-requires
push_marks-requires g c =
    let count = as_many c.args.table.now c.args.sides.now.atoms c.in_ok-atoms.atoms (c.in_ok-atoms.ensures ∙ ap (specifiers_at c.args.table.now) c.as_slice.ensures) in
    let first = c.in_ok-push_flat.ensures.long (subst (AreLong (length c.in_ok-atoms.atoms)) (sym c.new-rows.ensures) (λ k d l. absurd (omega arith))) in
    subst (λ n. AreLong n c.push_conses.new.rows) (sym (ap length c.as_slice-3.ensures ∙ count)) (c.in_ok-push_conses.ensures.long (subst (λ n. AreLong n c.push_flat.new.rows) count first))

pub returns-in_err-push_marks-clause-most : goal.returns-in_err-push_marks-clause-most
returns-in_err-push_marks-clause-most g c = λ list m.
    let h = flat_most c.args.table.now list c.args.sides.now.atoms c.in_ok-atoms.atoms _ _ m.sides.atoms_are (c.in_ok-atoms.ensures ∙ ap (specifiers_at c.args.table.now) c.as_slice.ensures) c.push_flat.ensures.most in
    let k = c.in_ok-push_conses.ensures.most c.args.structures.now list c.args.codes.now m in
    marked_most (predicates list) (candidates list + rows (cars_of list) * rows (cdrs_of list)) c.args.steps.now c.push_conses.new.steps c.push_marks.new.steps (length c.push_conses.new.rows)
    (omega (arith, h, k)) (omega (arith, c.in_ok-push_flat.ensures.fewer, c.in_ok-push_conses.ensures.fewer, ap length c.new-rows.ensures))
    (marked_count c.args.table.now list c.args.sides.now.atoms c.in_ok-atoms.atoms c.as_slice-3.result.now c.push_marks.new.steps c.push_conses.new.steps (length c.push_conses.new.rows)
    c.as_slice-3.ensures (c.in_ok-atoms.ensures ∙ ap (specifiers_at c.args.table.now) c.as_slice.ensures) m.sides.atoms_are c.push_marks.ensures.most)

pub returns-clause-most : goal.returns-clause-most
returns-clause-most g c = λ list m.
    let h = flat_most c.args.table.now list c.args.sides.now.atoms c.in_ok-atoms.atoms _ _ m.sides.atoms_are (c.in_ok-atoms.ensures ∙ ap (specifiers_at c.args.table.now) c.as_slice.ensures) c.push_flat.ensures.most in
    let k = c.in_ok-push_conses.ensures.most c.args.structures.now list c.args.codes.now m in
    marked_most (predicates list) (candidates list + rows (cars_of list) * rows (cdrs_of list)) c.args.steps.now c.push_conses.new.steps c.push_marks.new.steps (length c.push_conses.new.rows)
    (omega (arith, h, k)) (omega (arith, c.in_ok-push_flat.ensures.fewer, c.in_ok-push_conses.ensures.fewer, ap length c.new-rows.ensures))
    (marked_count c.args.table.now list c.args.sides.now.atoms c.in_ok-atoms.atoms c.as_slice-3.result.now c.push_marks.new.steps c.push_conses.new.steps (length c.push_conses.new.rows)
    c.as_slice-3.ensures (c.in_ok-atoms.ensures ∙ ap (specifiers_at c.args.table.now) c.as_slice.ensures) m.sides.atoms_are c.push_marks.ensures.most)

pub returns-clause-rows : goal.returns-clause-rows
returns-clause-rows g c = λ learnt list m l.
    c.in_ok-push_marks.ensures.rows c.args.structures.now learnt list
    (ap (map specifier) c.as_slice-3.ensures ∙ (c.in_ok-atoms.ensures ∙ ap (specifiers_at c.args.table.now) c.as_slice.ensures) ∙ m.sides.atoms_are)
    (rows_of_all c.args.structures.now learnt (atoms_of list) _ _ (subst (λ x. AddsRows c.args.structures.now learnt (atoms_of list) IsNoCons x c.push_flat.new.rows) c.new-rows.ensures (flat_rows c.args.structures.now learnt c.args.table.now list c.args.sides.now.atoms c.in_ok-atoms.atoms _ _ m.sides.atoms_are (c.in_ok-atoms.ensures ∙ ap (specifiers_at c.args.table.now) c.as_slice.ensures) l (c.in_ok-push_flat.ensures.rows learnt))) (c.in_ok-push_conses.ensures.rows c.args.structures.now learnt list c.args.codes.now m l))
