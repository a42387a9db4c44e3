use Rattle.std.proofs.Common.{◌∷◌, List, sym, ◌∙◌, subst, ap}
use Rattle.std.proofs.lemmas.List.Elements.{All-from_recursion}
use Rattle.std.proofs.lemmas.Result.{on_ok_weaker}
use Rattle.ls_spec.specs.Specifier.{Specifier}
use Rattle.ls_spec.specs.Atoms.{atoms_of}
use Rattle.ls_lists.specs.Costs.{table_specifiers}
use Rattle.ls_intern.specs.Places.{at, specifiers_at}
use Rattle.ls_spec.specs.Membership.{UpgradesTo}
use Rattle.ls_spec.specs.Truth.{IsLearnt}
use Rattle.ls_cells.specs.Cells.{AreRowsOf}
use Rattle.ls_cells.specs.Codes.{HasCodes}
use Rattle.ls_cells.specs.Kept.{structures_in, specifiers_in, codes_in}
use Rattle.ls_cells.proofs.DescentLemmas.{learnt_by}
use Rattle.ls_decide.specs.steps.Comparing.{IsOver}
use Rattle.ls_decide.proofs.PairLemmas.{over_all, is_learnt, rows_learnt}
use Rattle.ls_decide.proofs.EntryLemmas.{entries_coded, element_list_is, list_all}
use Rattle.ls_decide.proofs.LearnLemmas.{known_last}
use Rattle.ls_decide.proofs.upgrade.learn_code.Goals as goal

pub first_holding-requires-clause-over : goal.first_holding-requires-clause-over
first_holding-requires-clause-over c =
    let e = at (specifiers_in c.args.store.now) c.args.element in
    let atoms = ap (λ k. specifiers_at k c.cells.result.now.atoms) c.table.ensures.specifiers ∙ c.cells.ensures.atoms_are ∙ ap atoms_of (c.requires.list ∙ element_list_is e) in
    subst (λ k. IsOver (specifiers_at c.table.result.now c.cells.result.now.atoms) (at k c.args.element)) (sym c.table.ensures.specifiers) (over_all (e ∷ table_specifiers) _ atoms).0

pub first_holding-requires-clause-entries_over : goal.first_holding-requires-clause-entries_over
first_holding-requires-clause-entries_over c =
    let e = at (specifiers_in c.args.store.now) c.args.element in
    let atoms = ap (λ k. specifiers_at k c.cells.result.now.atoms) c.table.ensures.specifiers ∙ c.cells.ensures.atoms_are ∙ ap atoms_of (c.requires.list ∙ element_list_is e) in
    All-from_recursion (IsOver (specifiers_at c.table.result.now c.cells.result.now.atoms)) table_specifiers (over_all (e ∷ table_specifiers) _ atoms).1

-- the code is right for what the store has learnt
pub learn-requires-clause-upgraded : goal.learn-requires-clause-upgraded
learn-requires-clause-upgraded c =
    let known = specifiers_in c.args.store.now in
    let structures = structures_in c.args.store.now in
    let codes = codes_in c.args.store.now in
    let e = at known c.args.element in
    let of_e = is_learnt structures codes e c.table.ensures.codes c.table.ensures.order c.requires.learnt in
    let rows = rows_learnt structures codes known (specifiers_at known c.args.list.now) c.table.ensures.codes c.table.ensures.order
    (list_all (HasCodes codes) _ e c.requires.list c.requires.learnt (entries_coded codes)) c.cells.result.now c.cells.ensures in
    subst (λ (k : List Specifier). UpgradesTo structures (at k c.args.element) c.in_ok-code.code.index) c.table.ensures.specifiers
    (c.in_ok-code.ensures structures (learnt_by structures codes)
    (subst (λ (k : List Specifier). IsLearnt structures (learnt_by structures codes) (at k c.args.element)) (sym c.table.ensures.specifiers) of_e)
    (subst (λ (k : List Specifier). AreRowsOf structures (learnt_by structures codes) (specifiers_at k c.cells.result.now.atoms) c.cells.result.now.rows) (sym c.table.ensures.specifiers) rows))

pub returns-clause-known : goal.returns-clause-known
returns-clause-known c =
    on_ok_weaker _ (λ is. known_last (codes_in c.args.store.now) (codes_in c.learn.new.self) (at (specifiers_in c.args.store.now) c.args.element) c.in_ok-code.code.index is) c.learn.ensures.ok
