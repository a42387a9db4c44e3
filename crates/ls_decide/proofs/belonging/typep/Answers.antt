use Rattle.std.proofs.Common.{◌≡◌, ◌<◌, ◌≤◌, List, sym, subst, ◌∙◌, All}
use Rattle.ls_object.specs.Universe.{Structures}
use Rattle.ls_object.specs.Meaning.{lisp_object}
use Rattle.ls_spec.specs.Specifier.{Specifier}
use Rattle.ls_spec.specs.Meaning.{specifier}
use Rattle.ls_spec.specs.Fits.{Fits}
use Rattle.ls_intern.specs.Places.{at, specifiers_at}
use Rattle.ls_intern.proofs.PlaceLemmas.{at_grown, below_grown}
use Rattle.ls_cells.specs.Codes.{IsKnown, HasCodes}
use Rattle.ls_cells.specs.Kept.{structures_in, specifiers_in, codes_in, entries_in}
use Rattle.ls_decide.specs.steps.Learning.{AreInnerFirst}
use Rattle.ls_decide.proofs.AskedLemmas.{type_listed, type_fit, type_inner, type_coded, works_asked, made_asked, type_cost_is, cost_asked, paid_none, right_asked, done_asked, asked_at}
use Rattle.ls_decide.proofs.DecidedLemmas.{when_not, when_so}
use Rattle.ls_decide.proofs.WorkLemmas.{Works-none, works_then, IsPaid-made}
use Rattle.ls_decide.proofs.belonging.typep.Goals as goal

pub returns-in_err-id-clause-works : goal.returns-in_err-id-clause-works
returns-in_err-id-clause-works g c = works_then _ (entries_in c.args.store.now) _ (entries_in c.intern.new.self) _ _ c.intern.ensures.kept (Works-none _ _ _)

pub returns-in_err-elements-clause-works : goal.returns-in_err-elements-clause-works
returns-in_err-elements-clause-works g c = works_then _ (entries_in c.args.store.now) _ (entries_in c.intern.new.self) _ _ c.intern.ensures.kept (Works-none _ _ _)

pub learn_within-requires-clause-fit : goal.learn_within-requires-clause-fit
learn_within-requires-clause-fit g c =
    let s = specifier c.args.s.now in
    let known = specifiers_in c.intern.new.self in
    let these = type_listed c.table.result.now known _ c.as_slice.result.now c.in_ok-id.id s c.table.ensures.specifiers c.as_slice.ensures c.in_ok-id.ensures.is c.in_ok-elements.ensures.are in
    subst (λ (t : Structures). All (Fits t) (specifiers_at known c.as_slice.result.now)) (sym c.in_ok-id.ensures.structures)
    (subst (λ (l : List Specifier). All (Fits (structures_in c.args.store.now)) l) (sym these) (type_fit (structures_in c.args.store.now) s c.requires.fits))

pub learn_within-requires-clause-inner : goal.learn_within-requires-clause-inner
learn_within-requires-clause-inner g c =
    let s = specifier c.args.s.now in
    let known = specifiers_in c.intern.new.self in
    let these = type_listed c.table.result.now known _ c.as_slice.result.now c.in_ok-id.id s c.table.ensures.specifiers c.as_slice.ensures c.in_ok-id.ensures.is c.in_ok-elements.ensures.are in
    subst AreInnerFirst (sym these) (type_inner s)

pub returns-in_err-learn_within-clause-works : goal.returns-in_err-learn_within-clause-works
returns-in_err-learn_within-clause-works g c =
    let s = specifier c.args.s.now in
    let known = specifiers_in c.intern.new.self in
    let these = type_listed c.table.result.now known _ c.as_slice.result.now c.in_ok-id.id s c.table.ensures.specifiers c.as_slice.ensures c.in_ok-id.ensures.is c.in_ok-elements.ensures.are in
    let same = c.in_ok-id.ensures.kept in
    works_asked s _ these _ _ _ _ _ same c.learn_within.ensures.works

pub returns-in_err-learn_within-clause-cost : goal.returns-in_err-learn_within-clause-cost
returns-in_err-learn_within-clause-cost g c =
    let s = specifier c.args.s.now in
    let known = specifiers_in c.intern.new.self in
    let these = type_listed c.table.result.now known _ c.as_slice.result.now c.in_ok-id.id s c.table.ensures.specifiers c.as_slice.ensures c.in_ok-id.ensures.is c.in_ok-elements.ensures.are in
    let same = c.in_ok-id.ensures.kept in
    cost_asked s _ _ _ _ c.table-closed.ensures.closed (works_asked s _ these _ _ _ _ _ same c.learn_within.ensures.works)

pub returns-then-not-branch-clause-right : goal.returns-then-not-branch-clause-right
returns-then-not-branch-clause-right g c =
    let s = specifier c.args.s.now in
    let known = specifiers_in c.intern.new.self in
    let these = type_listed c.table.result.now known _ c.as_slice.result.now c.in_ok-id.id s c.table.ensures.specifiers c.as_slice.ensures c.in_ok-id.ensures.is c.in_ok-elements.ensures.are in
    let passed = when_not _ _ c.in_ok-learn_within.field-0 c.in_ok-learn_within.ensures.done c.if-not-branch.true in
    subst (λ n. c.args.budget < n) (type_cost_is s _ these) passed.passes

pub returns-then-not-branch-clause-works : goal.returns-then-not-branch-clause-works
returns-then-not-branch-clause-works g c =
    let s = specifier c.args.s.now in
    let known = specifiers_in c.intern.new.self in
    let these = type_listed c.table.result.now known _ c.as_slice.result.now c.in_ok-id.id s c.table.ensures.specifiers c.as_slice.ensures c.in_ok-id.ensures.is c.in_ok-elements.ensures.are in
    let same = c.in_ok-id.ensures.kept in
    works_asked s _ these _ _ _ _ _ same c.learn_within.ensures.works

pub returns-then-not-branch-clause-cost : goal.returns-then-not-branch-clause-cost
returns-then-not-branch-clause-cost g c =
    let s = specifier c.args.s.now in
    let known = specifiers_in c.intern.new.self in
    let these = type_listed c.table.result.now known _ c.as_slice.result.now c.in_ok-id.id s c.table.ensures.specifiers c.as_slice.ensures c.in_ok-id.ensures.is c.in_ok-elements.ensures.are in
    let same = c.in_ok-id.ensures.kept in
    cost_asked s _ _ _ _ c.table-closed.ensures.closed (works_asked s _ these _ _ _ _ _ same c.learn_within.ensures.works)

pub returns-then-not-branch-clause-done : goal.returns-then-not-branch-clause-done
returns-then-not-branch-clause-done g c =
    let passed = when_not _ _ c.in_ok-learn_within.field-0 c.in_ok-learn_within.ensures.done c.if-not-branch.true in
    (passed.same ∙ c.in_ok-id.ensures.kept, passed.still)

pub returns-then-not-branch-clause-paid : goal.returns-then-not-branch-clause-paid
returns-then-not-branch-clause-paid g c =
    let passed = when_not _ _ c.in_ok-learn_within.field-0 c.in_ok-learn_within.ensures.done c.if-not-branch.true in
    paid_none (entries_in c.args.store.now) (entries_in c.intern.new.self) (entries_in c.learn_within.new.store) _ _ c.in_ok-id.ensures.kept passed.same passed.still

pub ask-requires-clause-id : goal.ask-requires-clause-id
ask-requires-clause-id g c = below_grown (specifiers_in c.intern.new.self) (specifiers_in c.learn_within.new.store) c.in_ok-id.id c.learn_within.ensures.grows c.in_ok-id.ensures.within

pub ask-requires-clause-codes : goal.ask-requires-clause-codes
ask-requires-clause-codes g c =
    let s = specifier c.args.s.now in
    let known = specifiers_in c.intern.new.self in
    let these = type_listed c.table.result.now known _ c.as_slice.result.now c.in_ok-id.id s c.table.ensures.specifiers c.as_slice.ensures c.in_ok-id.ensures.is c.in_ok-elements.ensures.are in
    let learnt = when_so _ _ c.in_ok-learn_within.field-0 c.in_ok-learn_within.ensures.done c.if-not-branch.false in
    let grown = specifiers_in c.learn_within.new.store in
    let is : at grown c.in_ok-id.id ≡ s = at_grown known grown c.in_ok-id.id c.learn_within.ensures.grows c.in_ok-id.ensures.within ∙ c.in_ok-id.ensures.is in
    let codes = codes_in c.learn_within.new.store in
    subst (HasCodes codes) (sym is) (type_coded codes s (subst (λ (l : List Specifier). All (IsKnown codes) l) these learnt.known))

pub returns-in_err-ask-clause-works : goal.returns-in_err-ask-clause-works
returns-in_err-ask-clause-works g c =
    let s = specifier c.args.s.now in
    let known = specifiers_in c.intern.new.self in
    let these = type_listed c.table.result.now known _ c.as_slice.result.now c.in_ok-id.id s c.table.ensures.specifiers c.as_slice.ensures c.in_ok-id.ensures.is c.in_ok-elements.ensures.are in
    let same = c.in_ok-id.ensures.kept in
    works_asked s _ these _ _ _ _ _ same c.learn_within.ensures.works

pub returns-in_err-ask-clause-cost : goal.returns-in_err-ask-clause-cost
returns-in_err-ask-clause-cost g c =
    let s = specifier c.args.s.now in
    let known = specifiers_in c.intern.new.self in
    let these = type_listed c.table.result.now known _ c.as_slice.result.now c.in_ok-id.id s c.table.ensures.specifiers c.as_slice.ensures c.in_ok-id.ensures.is c.in_ok-elements.ensures.are in
    let same = c.in_ok-id.ensures.kept in
    cost_asked s _ _ _ _ c.table-closed.ensures.closed (works_asked s _ these _ _ _ _ _ same c.learn_within.ensures.works)

pub returns-clause-works : goal.returns-clause-works
returns-clause-works g c =
    let s = specifier c.args.s.now in
    let known = specifiers_in c.intern.new.self in
    let these = type_listed c.table.result.now known _ c.as_slice.result.now c.in_ok-id.id s c.table.ensures.specifiers c.as_slice.ensures c.in_ok-id.ensures.is c.in_ok-elements.ensures.are in
    let same = c.in_ok-id.ensures.kept in
    works_asked s _ these _ _ _ _ _ same c.learn_within.ensures.works

pub returns-clause-cost : goal.returns-clause-cost
returns-clause-cost g c =
    let s = specifier c.args.s.now in
    let known = specifiers_in c.intern.new.self in
    let these = type_listed c.table.result.now known _ c.as_slice.result.now c.in_ok-id.id s c.table.ensures.specifiers c.as_slice.ensures c.in_ok-id.ensures.is c.in_ok-elements.ensures.are in
    let same = c.in_ok-id.ensures.kept in
    cost_asked s _ _ _ _ c.table-closed.ensures.closed (works_asked s _ these _ _ _ _ _ same c.learn_within.ensures.works)

pub returns-clause-right : goal.returns-clause-right
returns-clause-right g c =
    let s = specifier c.args.s.now in
    let known = specifiers_in c.intern.new.self in
    let these = type_listed c.table.result.now known _ c.as_slice.result.now c.in_ok-id.id s c.table.ensures.specifiers c.as_slice.ensures c.in_ok-id.ensures.is c.in_ok-elements.ensures.are in
    let learnt = when_so _ _ c.in_ok-learn_within.field-0 c.in_ok-learn_within.ensures.done c.if-not-branch.false in
    let grown = specifiers_in c.learn_within.new.store in
    let is : at grown c.in_ok-id.id ≡ s = at_grown known grown c.in_ok-id.id c.learn_within.ensures.grows c.in_ok-id.ensures.within ∙ c.in_ok-id.ensures.is in
    let structures = c.learn_within.ensures.structures ∙ c.in_ok-id.ensures.structures in
    let right = asked_at _ (structures_in c.args.store.now) (lisp_object c.args.object.now) _ s c.in_ok-ask.field-0 structures is c.in_ok-ask.ensures in
    right_asked (structures_in c.args.store.now) (lisp_object c.args.object.now) s c.args.budget c.in_ok-ask.field-0
    (subst (λ n. n ≤ c.args.budget) (type_cost_is s _ these) learnt.within) right

pub returns-clause-done : goal.returns-clause-done
returns-clause-done g c =
    let s = specifier c.args.s.now in
    let known = specifiers_in c.intern.new.self in
    let these = type_listed c.table.result.now known _ c.as_slice.result.now c.in_ok-id.id s c.table.ensures.specifiers c.as_slice.ensures c.in_ok-id.ensures.is c.in_ok-elements.ensures.are in
    let same = c.in_ok-id.ensures.kept in
    let learnt = when_so _ _ c.in_ok-learn_within.field-0 c.in_ok-learn_within.ensures.done c.if-not-branch.false in
    let grown = specifiers_in c.learn_within.new.store in
    let is : at grown c.in_ok-id.id ≡ s = at_grown known grown c.in_ok-id.id c.learn_within.ensures.grows c.in_ok-id.ensures.within ∙ c.in_ok-id.ensures.is in
    let structures = c.learn_within.ensures.structures ∙ c.in_ok-id.ensures.structures in
    let right = asked_at _ (structures_in c.args.store.now) (lisp_object c.args.object.now) _ s c.in_ok-ask.field-0 structures is c.in_ok-ask.ensures in
    done_asked (structures_in c.args.store.now) (lisp_object c.args.object.now) s _ _ _ _ _ c.in_ok-ask.field-0 right (made_asked s _ these _ _ _ same learnt.made)

pub returns-clause-paid : goal.returns-clause-paid
returns-clause-paid g c =
    let s = specifier c.args.s.now in
    let known = specifiers_in c.intern.new.self in
    let these = type_listed c.table.result.now known _ c.as_slice.result.now c.in_ok-id.id s c.table.ensures.specifiers c.as_slice.ensures c.in_ok-id.ensures.is c.in_ok-elements.ensures.are in
    let same = c.in_ok-id.ensures.kept in
    let learnt = when_so _ _ c.in_ok-learn_within.field-0 c.in_ok-learn_within.ensures.done c.if-not-branch.false in
    IsPaid-made _ _ _ _ _ (works_asked s _ these _ _ _ _ _ same c.learn_within.ensures.works) (made_asked s _ these _ _ _ same learnt.made)
