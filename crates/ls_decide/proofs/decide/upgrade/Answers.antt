use Rattle.std.proofs.Common.{◌≡◌, ◌<◌, ◌≤◌, List, sym, refl, subst, ◌∙◌, All}
use Rattle.ls_object.specs.Universe.{Structures}
use Rattle.ls_spec.specs.Specifier.{Specifier}
use Rattle.ls_spec.specs.Meaning.{specifier}
use Rattle.ls_spec.specs.Fits.{Fits}
use Rattle.ls_intern.specs.Places.{at, specifiers_at}
use Rattle.ls_intern.proofs.PlaceLemmas.{at_grown}
use Rattle.ls_cells.specs.Codes.{IsKnown}
use Rattle.ls_cells.specs.Kept.{Entries, structures_in, specifiers_in, codes_in, entries_in}
use Rattle.ls_decide.specs.Sessions.{IsPaid}
use Rattle.ls_decide.specs.steps.Learning.{AreInnerFirst}
use Rattle.ls_decide.proofs.DecidedLemmas.{when_not, when_so, vector_listed, vector_inner, vector_fit, works_upgraded, made_upgraded, upgrade_cost_is, cost_upgraded, upgraded_right, upgraded_done, upgraded_told, known_itself}
use Rattle.ls_decide.proofs.WorkLemmas.{Works-none, works_then, IsPaid-same, IsPaid-made}
use Rattle.ls_decide.proofs.decide.upgrade.Goals as goal

pub returns-in_err-element-clause-works : goal.returns-in_err-element-clause-works
returns-in_err-element-clause-works g c = works_then _ (entries_in c.args.store.now) _ (entries_in c.intern.new.self) _ _ c.intern.ensures.kept (Works-none _ _ _)

pub returns-in_err-elements-clause-works : goal.returns-in_err-elements-clause-works
returns-in_err-elements-clause-works g c = works_then _ (entries_in c.args.store.now) _ (entries_in c.intern.new.self) _ _ c.intern.ensures.kept (Works-none _ _ _)

pub returns-in_err-add-clause-works : goal.returns-in_err-add-clause-works
returns-in_err-add-clause-works g c = works_then _ (entries_in c.args.store.now) _ (entries_in c.intern.new.self) _ _ c.intern.ensures.kept (Works-none _ _ _)

pub learn_within-requires-clause-fit : goal.learn_within-requires-clause-fit
learn_within-requires-clause-fit g c =
    let e = specifier c.args.e.now in
    let known = specifiers_in c.intern.new.self in
    let these = vector_listed c.table.result.now c.table-2.result.now known _ _ _ c.as_slice.result.now c.in_ok-element.element e c.table.ensures.specifiers c.table-2.ensures.specifiers c.as_slice.ensures refl c.in_ok-element.ensures.is
    c.in_ok-elements.ensures.are c.in_ok-add.ensures.is in
    subst (λ (s : Structures). All (Fits s) (specifiers_at known c.as_slice.result.now)) (sym c.in_ok-element.ensures.structures)
    (subst (λ (l : List Specifier). All (Fits (structures_in c.args.store.now)) l) (sym these) (vector_fit (structures_in c.args.store.now) e c.requires.fits))

pub learn_within-requires-clause-inner : goal.learn_within-requires-clause-inner
learn_within-requires-clause-inner g c =
    let e = specifier c.args.e.now in
    let known = specifiers_in c.intern.new.self in
    let these = vector_listed c.table.result.now c.table-2.result.now known _ _ _ c.as_slice.result.now c.in_ok-element.element e c.table.ensures.specifiers c.table-2.ensures.specifiers c.as_slice.ensures refl c.in_ok-element.ensures.is
    c.in_ok-elements.ensures.are c.in_ok-add.ensures.is in
    subst AreInnerFirst (sym these) (vector_inner e)

pub returns-in_err-learn_within-clause-works : goal.returns-in_err-learn_within-clause-works
returns-in_err-learn_within-clause-works g c =
    let e = specifier c.args.e.now in
    let known = specifiers_in c.intern.new.self in
    let these = vector_listed c.table.result.now c.table-2.result.now known _ _ _ c.as_slice.result.now c.in_ok-element.element e c.table.ensures.specifiers c.table-2.ensures.specifiers c.as_slice.ensures refl c.in_ok-element.ensures.is
    c.in_ok-elements.ensures.are c.in_ok-add.ensures.is in
    let same = c.in_ok-element.ensures.kept in
    let works = works_upgraded e _ _ _ _ _ _ these same c.learn_within.ensures.works in
    works

pub returns-in_err-learn_within-clause-cost : goal.returns-in_err-learn_within-clause-cost
returns-in_err-learn_within-clause-cost g c =
    let e = specifier c.args.e.now in
    let known = specifiers_in c.intern.new.self in
    let these = vector_listed c.table.result.now c.table-2.result.now known _ _ _ c.as_slice.result.now c.in_ok-element.element e c.table.ensures.specifiers c.table-2.ensures.specifiers c.as_slice.ensures refl c.in_ok-element.ensures.is
    c.in_ok-elements.ensures.are c.in_ok-add.ensures.is in
    let same = c.in_ok-element.ensures.kept in
    let works = works_upgraded e _ _ _ _ _ _ these same c.learn_within.ensures.works in
    cost_upgraded e _ _ _ _ c.table-closed.ensures.closed works

pub returns-then-not-branch-clause-right : goal.returns-then-not-branch-clause-right
returns-then-not-branch-clause-right g c =
    let e = specifier c.args.e.now in
    let known = specifiers_in c.intern.new.self in
    let these = vector_listed c.table.result.now c.table-2.result.now known _ _ _ c.as_slice.result.now c.in_ok-element.element e c.table.ensures.specifiers c.table-2.ensures.specifiers c.as_slice.ensures refl c.in_ok-element.ensures.is
    c.in_ok-elements.ensures.are c.in_ok-add.ensures.is in
    let passed = when_not _ _ c.in_ok-learn_within.field-0 c.in_ok-learn_within.ensures.done c.if-not-branch.true in
    subst (λ n. c.args.budget < n) (upgrade_cost_is e _ these) passed.passes

pub returns-then-not-branch-clause-works : goal.returns-then-not-branch-clause-works
returns-then-not-branch-clause-works g c =
    let e = specifier c.args.e.now in
    let known = specifiers_in c.intern.new.self in
    let these = vector_listed c.table.result.now c.table-2.result.now known _ _ _ c.as_slice.result.now c.in_ok-element.element e c.table.ensures.specifiers c.table-2.ensures.specifiers c.as_slice.ensures refl c.in_ok-element.ensures.is
    c.in_ok-elements.ensures.are c.in_ok-add.ensures.is in
    let same = c.in_ok-element.ensures.kept in
    let works = works_upgraded e _ _ _ _ _ _ these same c.learn_within.ensures.works in
    works

pub returns-clause-right : goal.returns-clause-right
returns-clause-right g c =
    let e = specifier c.args.e.now in
    let known = specifiers_in c.intern.new.self in
    let these = vector_listed c.table.result.now c.table-2.result.now known _ _ _ c.as_slice.result.now c.in_ok-element.element e c.table.ensures.specifiers c.table-2.ensures.specifiers c.as_slice.ensures refl c.in_ok-element.ensures.is
    c.in_ok-elements.ensures.are c.in_ok-add.ensures.is in
    let learnt = when_so _ _ c.in_ok-learn_within.field-0 c.in_ok-learn_within.ensures.done c.if-not-branch.false in
    let grown = specifiers_in c.learn_within.new.store in
    let is : at grown c.in_ok-element.element ≡ e = at_grown known grown c.in_ok-element.element c.learn_within.ensures.grows c.in_ok-element.ensures.within ∙ c.in_ok-element.ensures.is in
    let structures = c.learn_within.ensures.structures ∙ c.in_ok-element.ensures.structures in
    let here = known_itself (codes_in c.learn_within.new.store) e (subst (λ (l : List Specifier). All (IsKnown (codes_in c.learn_within.new.store)) l) these learnt.known) in
    let told = upgraded_told _ (structures_in c.args.store.now) _ e (codes_in c.learn_within.new.store) c.code.result structures is c.code.ensures in
    upgraded_right (structures_in c.args.store.now) e (codes_in c.learn_within.new.store) c.args.budget c.code.result told here (subst (λ n. n ≤ c.args.budget) (upgrade_cost_is e _ these) learnt.within)

pub returns-clause-works : goal.returns-clause-works
returns-clause-works g c =
    let e = specifier c.args.e.now in
    let known = specifiers_in c.intern.new.self in
    let these = vector_listed c.table.result.now c.table-2.result.now known _ _ _ c.as_slice.result.now c.in_ok-element.element e c.table.ensures.specifiers c.table-2.ensures.specifiers c.as_slice.ensures refl c.in_ok-element.ensures.is
    c.in_ok-elements.ensures.are c.in_ok-add.ensures.is in
    let same = c.in_ok-element.ensures.kept in
    let works = works_upgraded e _ _ _ _ _ _ these same c.learn_within.ensures.works in
    works

pub returns-clause-cost : goal.returns-clause-cost
returns-clause-cost g c =
    let e = specifier c.args.e.now in
    let known = specifiers_in c.intern.new.self in
    let these = vector_listed c.table.result.now c.table-2.result.now known _ _ _ c.as_slice.result.now c.in_ok-element.element e c.table.ensures.specifiers c.table-2.ensures.specifiers c.as_slice.ensures refl c.in_ok-element.ensures.is
    c.in_ok-elements.ensures.are c.in_ok-add.ensures.is in
    let same = c.in_ok-element.ensures.kept in
    let works = works_upgraded e _ _ _ _ _ _ these same c.learn_within.ensures.works in
    cost_upgraded e _ _ _ _ c.table-closed.ensures.closed works

pub returns-clause-done : goal.returns-clause-done
returns-clause-done g c =
    let e = specifier c.args.e.now in
    let known = specifiers_in c.intern.new.self in
    let these = vector_listed c.table.result.now c.table-2.result.now known _ _ _ c.as_slice.result.now c.in_ok-element.element e c.table.ensures.specifiers c.table-2.ensures.specifiers c.as_slice.ensures refl c.in_ok-element.ensures.is
    c.in_ok-elements.ensures.are c.in_ok-add.ensures.is in
    let same = c.in_ok-element.ensures.kept in
    let learnt = when_so _ _ c.in_ok-learn_within.field-0 c.in_ok-learn_within.ensures.done c.if-not-branch.false in
    let grown = specifiers_in c.learn_within.new.store in
    let is : at grown c.in_ok-element.element ≡ e = at_grown known grown c.in_ok-element.element c.learn_within.ensures.grows c.in_ok-element.ensures.within ∙ c.in_ok-element.ensures.is in
    let structures = c.learn_within.ensures.structures ∙ c.in_ok-element.ensures.structures in
    let here = known_itself (codes_in c.learn_within.new.store) e (subst (λ (l : List Specifier). All (IsKnown (codes_in c.learn_within.new.store)) l) these learnt.known) in
    let told = upgraded_told _ (structures_in c.args.store.now) _ e (codes_in c.learn_within.new.store) c.code.result structures is c.code.ensures in
    upgraded_done (structures_in c.args.store.now) e (codes_in c.learn_within.new.store) _ _ _ _ _ c.code.result told here (made_upgraded e _ _ _ _ these same learnt.made)

pub returns-then-not-branch-clause-paid : goal.returns-then-not-branch-clause-paid
returns-then-not-branch-clause-paid g c =
    let passed = when_not _ _ c.in_ok-learn_within.field-0 c.in_ok-learn_within.ensures.done c.if-not-branch.true in
    IsPaid-same (entries_in c.args.store.now) _ _ _ (passed.same ∙ c.in_ok-element.ensures.kept) passed.still

pub returns-clause-paid : goal.returns-clause-paid
returns-clause-paid g c =
    let learnt = when_so _ _ c.in_ok-learn_within.field-0 c.in_ok-learn_within.ensures.done c.if-not-branch.false in
    let old = entries_in c.intern.new.self in
    let new = entries_in c.learn_within.new.store in
    subst (λ (es : Entries). IsPaid es new c.args.steps.now c.learn_within.new.steps) c.in_ok-element.ensures.kept
    (IsPaid-made _ old new c.args.steps.now c.learn_within.new.steps c.learn_within.ensures.works learnt.made)
