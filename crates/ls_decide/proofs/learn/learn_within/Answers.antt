use Rattle.std.proofs.Common.{◌<◌, ◌≤◌, List, length, map, sym, refl, subst, All}
use Rattle.ls_object.specs.Universe.{Structures}
use Rattle.ls_spec.specs.Specifier.{Specifier}
use Rattle.ls_spec.specs.Fits.{Fits}
use Rattle.ls_intern.specs.Places.{specifiers_at, AllBelow}
use Rattle.ls_intern.proofs.PlaceLemmas.{all_below_grown, specifiers_grown}
use Rattle.ls_cells.specs.Codes.{IsKnown}
use Rattle.ls_cells.specs.Kept.{structures_in, specifiers_in, codes_in, entries_in, Entries}
use Rattle.ls_decide.specs.Answers.{TellsCost}
use Rattle.ls_decide.specs.Sessions.{element_list, HasMade}
use Rattle.ls_decide.specs.steps.Learning.{AreInnerFirst, learning_cost}
use Rattle.ls_decide.proofs.TakenLemmas.{learnt_none, works_from, cost_told}
use Rattle.ls_decide.proofs.WorkLemmas.{Works-none, works_then}
use Rattle.ls_decide.proofs.learn.learn_within.Goals as goal

pub returns-then-is_empty-clause-works : goal.returns-then-is_empty-clause-works
returns-then-is_empty-clause-works g c = Works-none _ _ _

pub returns-then-is_empty-clause-done : goal.returns-then-is_empty-clause-done
returns-then-is_empty-clause-done g c =
    learnt_none (specifiers_in c.args.store.now) c.args.elements.now c.args.budget (codes_in c.args.store.now) (entries_in c.args.store.now) c.is_empty.result c.is_empty.ensures c.if-is_empty.true

pub returns-in_err-entries-clause-works : goal.returns-in_err-entries-clause-works
returns-in_err-entries-clause-works g c = works_then _ (entries_in c.args.store.now) _ (entries_in c.intern_entries.new.store) _ _ c.intern_entries.ensures.kept (Works-none _ _ _)

pub cost_with_entries-requires-clause-elements : goal.cost_with_entries-requires-clause-elements
cost_with_entries-requires-clause-elements g c =
    subst (λ (k : List Specifier). AllBelow (length k) c.args.elements.now) (sym c.table.ensures.specifiers) (all_below_grown _ _ _ c.intern_entries.ensures.grows c.requires.elements)

pub returns-in_err-cost_with_entries-clause-works : goal.returns-in_err-cost_with_entries-clause-works
returns-in_err-cost_with_entries-clause-works g c = works_then _ (entries_in c.args.store.now) _ (entries_in c.intern_entries.new.store) _ _ c.intern_entries.ensures.kept (Works-none _ _ _)

pub returns-in-None-clause-works : goal.returns-in-None-clause-works
returns-in-None-clause-works g c = works_then _ (entries_in c.args.store.now) _ (entries_in c.intern_entries.new.store) _ _ c.intern_entries.ensures.kept (Works-none _ _ _)

-- they cost more than the budget
pub returns-in-None-clause-done : goal.returns-in-None-clause-done
returns-in-None-clause-done g c =
    let new = specifiers_in c.intern_entries.new.store in
    let same = specifiers_grown (specifiers_in c.args.store.now) new c.args.elements.now c.intern_entries.ensures.grows c.requires.elements in
    let told = cost_told c.table.result.now new c.as_slice.result.now c.in_ok-entries.entries.items c.args.elements.now c.args.budget c.in_ok-cost_with_entries.field-0 c.table.ensures.specifiers c.as_slice.ensures.value
    c.in_ok-entries.ensures.are c.in_ok-cost_with_entries.ensures in
    record {
      passes = subst (λ l. c.args.budget < learning_cost l) same (subst (TellsCost c.args.budget (learning_cost (specifiers_at new c.args.elements.now))) c.in-None.is told);
      same = c.intern_entries.ensures.kept;
      still = refl;
    }

pub learn_all-requires-clause-elements : goal.learn_all-requires-clause-elements
learn_all-requires-clause-elements g c = all_below_grown _ _ _ c.intern_entries.ensures.grows c.requires.elements

pub learn_all-requires-clause-fit : goal.learn_all-requires-clause-fit
learn_all-requires-clause-fit g c =
    let same = specifiers_grown (specifiers_in c.args.store.now) (specifiers_in c.intern_entries.new.store) c.args.elements.now c.intern_entries.ensures.grows c.requires.elements in
    subst (λ (s : Structures). All (Fits s) (specifiers_at (specifiers_in c.intern_entries.new.store) c.args.elements.now)) (sym c.intern_entries.ensures.structures)
    (subst (λ (l : List Specifier). All (Fits (structures_in c.args.store.now)) l) (sym same) c.requires.fit)

pub learn_all-requires-clause-inner : goal.learn_all-requires-clause-inner
learn_all-requires-clause-inner g c =
    let same = specifiers_grown (specifiers_in c.args.store.now) (specifiers_in c.intern_entries.new.store) c.args.elements.now c.intern_entries.ensures.grows c.requires.elements in
    subst AreInnerFirst (sym same) c.requires.inner

pub returns-in_err-learn_all-in-Some-clause-works : goal.returns-in_err-learn_all-in-Some-clause-works
returns-in_err-learn_all-in-Some-clause-works g c =
    let same = specifiers_grown (specifiers_in c.args.store.now) (specifiers_in c.intern_entries.new.store) c.args.elements.now c.intern_entries.ensures.grows c.requires.elements in
    works_from _ _ _ _ _ _ _ same c.intern_entries.ensures.kept c.learn_all.ensures.works

pub returns-clause-works : goal.returns-clause-works
returns-clause-works g c =
    let same = specifiers_grown (specifiers_in c.args.store.now) (specifiers_in c.intern_entries.new.store) c.args.elements.now c.intern_entries.ensures.grows c.requires.elements in
    works_from _ _ _ _ _ _ _ same c.intern_entries.ensures.kept c.learn_all.ensures.works

-- they are known, within the budget
pub returns-clause-done : goal.returns-clause-done
returns-clause-done g c =
    let new = specifiers_in c.intern_entries.new.store in
    let same = specifiers_grown (specifiers_in c.args.store.now) new c.args.elements.now c.intern_entries.ensures.grows c.requires.elements in
    let told = cost_told c.table.result.now new c.as_slice.result.now c.in_ok-entries.entries.items c.args.elements.now c.args.budget c.in_ok-cost_with_entries.field-0 c.table.ensures.specifiers c.as_slice.ensures.value
    c.in_ok-entries.ensures.are c.in_ok-cost_with_entries.ensures in
    let within = (subst (TellsCost c.args.budget (learning_cost (specifiers_at new c.args.elements.now))) c.in-Some.is told).1 in
    record {
      within = subst (λ l. learning_cost l ≤ c.args.budget) same within;
      known = subst (λ (l : List Specifier). All (IsKnown (codes_in c.learn_all.new.store)) l) same c.in_ok-learn_all-in-Some.ensures.known;
      made = subst (λ (es : Entries). HasMade (map element_list (specifiers_at (specifiers_in c.args.store.now) c.args.elements.now)) es (entries_in c.learn_all.new.store)) c.intern_entries.ensures.kept
          (subst (λ (l : List Specifier). HasMade (map element_list l) (entries_in c.intern_entries.new.store) (entries_in c.learn_all.new.store)) same c.in_ok-learn_all-in-Some.ensures.done);
    }
