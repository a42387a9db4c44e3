use Rattle.std.proofs.Common.{◌≡◌, List, sym, subst, IsTrue}
use Rattle.std.proofs.lemmas.Result.{on_ok_weaker}
use Rattle.ls_spec.specs.Specifier.{Specifier}
use Rattle.ls_spec.specs.Fits.{Fits}
use Rattle.ls_lists.specs.Walks.{among}
use Rattle.ls_intern.specs.Places.{at, specifiers_at}
use Rattle.ls_cells.specs.Codes.{HasCodes, IsKnown}
use Rattle.ls_cells.specs.Kept.{structures_in, specifiers_in, codes_in, entries_in, lists}
use Rattle.ls_decide.specs.Sessions.{element_list}
use Rattle.ls_decide.proofs.EntryLemmas.{entries_fit, entries_coded, listed_with, list_all, list_some}
use Rattle.ls_decide.proofs.WorkLemmas.{Works-none, works_listed, works_then, made_listed}
use Rattle.ls_decide.proofs.upgrade.learn_one.Goals as goal

pub returns-in_err-list-clause-works : goal.returns-in_err-list-clause-works
returns-in_err-list-clause-works g c = Works-none _ _ _

pub fill-requires-clause-fit : goal.fill-requires-clause-fit
fill-requires-clause-fit g c =
    let known = specifiers_in c.args.store.now in
    let is = listed_with _ known _ _ c.args.entries.now c.args.element c.table.ensures.specifiers c.as_slice.ensures c.in_ok-list.ensures.are c.requires.entries in
    list_all (Fits (structures_in c.args.store.now)) _ (at known c.args.element) is c.requires.fits (entries_fit (structures_in c.args.store.now))

pub fill-requires-clause-learnt : goal.fill-requires-clause-learnt
fill-requires-clause-learnt g c =
    let known = specifiers_in c.args.store.now in
    let is = listed_with _ known _ _ c.args.entries.now c.args.element c.table.ensures.specifiers c.as_slice.ensures c.in_ok-list.ensures.are c.requires.entries in
    list_all (HasCodes (codes_in c.args.store.now)) _ (at known c.args.element) is c.requires.learnt (entries_coded (codes_in c.args.store.now))

-- some of the rows were made before memory was wanting
pub returns-in_err-fill-clause-works : goal.returns-in_err-fill-clause-works
returns-in_err-fill-clause-works g c =
    let known = specifiers_in c.args.store.now in
    let is = listed_with _ known _ _ c.args.entries.now c.args.element c.table.ensures.specifiers c.as_slice.ensures c.in_ok-list.ensures.are c.requires.entries in
    works_listed _ (element_list (at known c.args.element)) _ _ _ _ is c.fill.ensures.grows c.fill.ensures.rows c.fill.ensures.rises c.fill.ensures.began

pub learn_code-requires-clause-list : goal.learn_code-requires-clause-list
learn_code-requires-clause-list g c =
    let known = specifiers_in c.args.store.now in
    let is = listed_with _ known _ _ c.args.entries.now c.args.element c.table.ensures.specifiers c.as_slice-2.ensures c.in_ok-list.ensures.are c.requires.entries in
    subst (λ (k : List Specifier). specifiers_at k c.as_slice-2.result.now ≡ element_list (at k c.args.element)) (sym c.fill.ensures.specifiers) is

pub learn_code-requires-clause-kept : goal.learn_code-requires-clause-kept
learn_code-requires-clause-kept g c =
    let known = specifiers_in c.args.store.now in
    let is = listed_with _ known _ _ c.args.entries.now c.args.element c.table.ensures.specifiers c.as_slice.ensures c.in_ok-list.ensures.are c.requires.entries in
    subst (λ (k : List Specifier). IsTrue (among (element_list (at k c.args.element)) (lists (entries_in c.fill.new.self)))) (sym c.fill.ensures.specifiers)
    (subst (λ (l : List Specifier). IsTrue (among l (lists (entries_in c.fill.new.self)))) is (c.in_ok-fill.ensures.kept (list_some known _ _ is)))

pub returns-clause-works : goal.returns-clause-works
returns-clause-works g c =
    let known = specifiers_in c.args.store.now in
    let is = listed_with _ known _ _ c.args.entries.now c.args.element c.table.ensures.specifiers c.as_slice.ensures c.in_ok-list.ensures.are c.requires.entries in
    works_then _ _ _ _ _ _ c.learn_code.ensures.entries (works_listed _ (element_list (at known c.args.element)) _ _ _ _ is c.fill.ensures.grows c.fill.ensures.rows c.fill.ensures.rises c.fill.ensures.began)

pub returns-clause-known : goal.returns-clause-known
returns-clause-known g c =
    on_ok_weaker _ (λ h. subst (λ (k : List Specifier). IsKnown (codes_in c.learn_code.new.store) (at k c.args.element)) c.fill.ensures.specifiers h) c.learn_code.ensures.known

pub returns-clause-done : goal.returns-clause-done
returns-clause-done g c =
    let known = specifiers_in c.args.store.now in
    let is = listed_with _ known _ _ c.args.entries.now c.args.element c.table.ensures.specifiers c.as_slice.ensures c.in_ok-list.ensures.are c.requires.entries in
    let made = made_listed _ (element_list (at known c.args.element)) (entries_in c.args.store.now) (entries_in c.fill.new.self) (entries_in c.learn_code.new.store) is c.in_ok-fill.ensures.all
    c.table.ensures.closed (c.in_ok-fill.ensures.kept (list_some known _ _ is)) c.learn_code.ensures.entries in
    on_ok_weaker _ (λ h. made) c.learn_code.ensures.known
