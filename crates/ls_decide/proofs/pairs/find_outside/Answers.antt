use Rattle.std.proofs.Common.{◌≡◌, ◌∙◌, ◌∷◌, [], ap, List, sym, subst}
use Rattle.ls_object.specs.Universe.{Structures}
use Rattle.ls_object.specs.Inclusion.{IsInclusionOrder}
use Rattle.ls_spec.specs.Specifier.{Specifier}
use Rattle.ls_spec.specs.Fits.{Fits}
use Rattle.ls_spec.specs.Truth.{Learnt, IsLearnt}
use Rattle.ls_spec.specs.Atoms.{atoms_of}
use Rattle.ls_intern.specs.Places.{specifiers_at}
use Rattle.ls_cells.specs.Cells.{AreRowsOf}
use Rattle.ls_cells.specs.Codes.{AreUpgraded, HasCodes}
use Rattle.ls_cells.specs.Kept.{structures_in, specifiers_in, codes_in, entries_in, AreCellsOf}
use Rattle.ls_decide.specs.Sessions.{HasMade}
use Rattle.ls_decide.specs.steps.Comparing.{IsOver, IsFound}
use Rattle.ls_decide.specs.steps.Pairs.{first_of, second_of}
use Rattle.ls_decide.proofs.PairLemmas.{pair_all, pair_some, pair_over, pair_found}
use Rattle.ls_decide.proofs.WorkLemmas.{works_listed, HasMade-one}
use Rattle.ls_decide.proofs.pairs.find_outside.Goals as goal

pub fill-requires-clause-fit : goal.fill-requires-clause-fit
fill-requires-clause-fit g c =
    let known = specifiers_in c.args.store.now in
    let list = ap (specifiers_at known) c.as_slice-list.ensures ∙ c.requires.pair.list_is in
    pair_all known c.as_slice-list.result.now (first_of known c.args.pair.now) (second_of known c.args.pair.now) list (Fits (structures_in c.args.store.now)) c.requires.first_fits c.requires.second_fits

pub fill-requires-clause-learnt : goal.fill-requires-clause-learnt
fill-requires-clause-learnt g c =
    let known = specifiers_in c.args.store.now in
    let list = ap (specifiers_at known) c.as_slice-list.ensures ∙ c.requires.pair.list_is in
    pair_all known c.as_slice-list.result.now (first_of known c.args.pair.now) (second_of known c.args.pair.now) list (HasCodes (codes_in c.args.store.now)) c.requires.first_learnt c.requires.second_learnt

-- rows were made for some of the lists before memory was wanting
pub returns-in_err-fill-clause-works : goal.returns-in_err-fill-clause-works
returns-in_err-fill-clause-works g c =
    let known = specifiers_in c.args.store.now in
    let list = ap (specifiers_at known) c.as_slice-list.ensures ∙ c.requires.pair.list_is in
    works_listed _ _ _ _ _ _ list c.fill.ensures.grows c.fill.ensures.rows c.fill.ensures.rises c.fill.ensures.began

-- both specifiers are over the atoms of the list
pub outside-requires-clause-first_over : goal.outside-requires-clause-first_over
outside-requires-clause-first_over g c =
    let known = specifiers_in c.args.store.now in
    let pair = c.args.pair.now in
    let list = ap (specifiers_at known) c.as_slice-list.ensures ∙ c.requires.pair.list_is in
    let atoms = subst (λ (k : List Specifier). specifiers_at k c.cells.result.now.atoms ≡ atoms_of (specifiers_at k c.as_slice-list.result.now)) c.fill.ensures.specifiers c.cells.ensures.atoms_are in
    subst (λ (k : List Specifier). IsOver (specifiers_at k c.cells.result.now.atoms) (first_of k pair)) (sym (c.table.ensures.specifiers ∙ c.fill.ensures.specifiers))
    (pair_over known c.as_slice-list.result.now (first_of known pair) (second_of known pair) list _ atoms).0

pub outside-requires-clause-second_over : goal.outside-requires-clause-second_over
outside-requires-clause-second_over g c =
    let known = specifiers_in c.args.store.now in
    let pair = c.args.pair.now in
    let list = ap (specifiers_at known) c.as_slice-list.ensures ∙ c.requires.pair.list_is in
    let atoms = subst (λ (k : List Specifier). specifiers_at k c.cells.result.now.atoms ≡ atoms_of (specifiers_at k c.as_slice-list.result.now)) c.fill.ensures.specifiers c.cells.ensures.atoms_are in
    subst (λ (k : List Specifier). IsOver (specifiers_at k c.cells.result.now.atoms) (second_of k pair)) (sym (c.table.ensures.specifiers ∙ c.fill.ensures.specifiers))
    (pair_over known c.as_slice-list.result.now (first_of known pair) (second_of known pair) list _ atoms).1

-- what is found at the rows of the list is right
pub returns-clause-right : goal.returns-clause-right
returns-clause-right g c =
    let known = specifiers_in c.args.store.now in
    let structures = structures_in c.args.store.now in
    let codes = codes_in c.args.store.now in
    let pair = c.args.pair.now in
    let slice = c.as_slice-list.result.now in
    let cells = c.cells.result.now in
    let list = ap (specifiers_at known) c.as_slice-list.ensures ∙ c.requires.pair.list_is in
    let are = subst (λ (k : List Specifier). AreCellsOf structures k (specifiers_at k slice) cells) c.fill.ensures.specifiers
    (subst (λ (s : Structures). AreCellsOf s (specifiers_in c.fill.new.self) (specifiers_at (specifiers_in c.fill.new.self) slice) cells) c.fill.ensures.structures c.cells.ensures) in
    let upgraded = subst (λ (s : Structures). AreUpgraded s codes) c.fill.ensures.structures (subst (AreUpgraded (structures_in c.fill.new.self)) c.fill.ensures.codes c.table.ensures.codes) in
    pair_found known slice (first_of known pair) (second_of known pair) list structures codes upgraded (subst IsInclusionOrder c.fill.ensures.structures c.table.ensures.order)
    c.requires.first_learnt c.requires.second_learnt cells are c.in_ok-outside.field-0
    (subst (λ (k : List Specifier). (s : Structures) (learnt : Learnt) → IsLearnt s learnt (first_of k pair) → IsLearnt s learnt (second_of k pair) → AreRowsOf s learnt (specifiers_at k cells.atoms) cells.rows
    → IsFound s (first_of k pair) (second_of k pair) c.in_ok-outside.field-0) (c.table.ensures.specifiers ∙ c.fill.ensures.specifiers) c.in_ok-outside.ensures.right)

-- they were all made, and memory was wanting behind them
pub returns-in_err-outside-clause-works : goal.returns-in_err-outside-clause-works
returns-in_err-outside-clause-works g c =
    let known = specifiers_in c.args.store.now in
    let list = ap (specifiers_at known) c.as_slice-list.ensures ∙ c.requires.pair.list_is in
    works_listed _ _ _ _ _ _ list c.fill.ensures.grows c.fill.ensures.rows c.fill.ensures.rises c.fill.ensures.began

pub returns-clause-works : goal.returns-clause-works
returns-clause-works g c =
    let known = specifiers_in c.args.store.now in
    let list = ap (specifiers_at known) c.as_slice-list.ensures ∙ c.requires.pair.list_is in
    works_listed _ _ _ _ _ _ list c.fill.ensures.grows c.fill.ensures.rows c.fill.ensures.rises c.fill.ensures.began

-- rows are kept for all lists that the list reaches
pub returns-clause-done : goal.returns-clause-done
returns-clause-done g c =
    let known = specifiers_in c.args.store.now in
    let slice = c.as_slice-list.result.now in
    let list = ap (specifiers_at known) c.as_slice-list.ensures ∙ c.requires.pair.list_is in
    subst (λ (l : List Specifier). HasMade (l ∷ []) (entries_in c.args.store.now) (entries_in c.fill.new.self)) list
    (HasMade-one _ _ _ c.in_ok-fill.ensures.all c.table.ensures.closed (c.in_ok-fill.ensures.kept (pair_some known slice (first_of known c.args.pair.now) (second_of known c.args.pair.now) list)))
