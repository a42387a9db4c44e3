use Rattle.std.proofs.Common.{◌+◌, ◌<◌, ◌∷◌, [], List, length, map, sym, subst, take, drop, arith, All}
use Rattle.std.specs.Prelude.{slice_index_or}
use Rattle.ls_object.specs.Universe.{Structures}
use Rattle.ls_spec.specs.Specifier.{Specifier}
use Rattle.ls_spec.specs.Fits.{Fits}
use Rattle.ls_intern.specs.Places.{at, specifiers_at}
use Rattle.ls_sides.proofs.GatherLemmas.{below_at}
use Rattle.ls_cells.specs.Codes.{HasCodes, IsKnown}
use Rattle.ls_cells.specs.Kept.{structures_in, specifiers_in, codes_in, entries_in}
use Rattle.ls_decide.specs.Sessions.{element_list, Works, HasMade}
use Rattle.ls_decide.specs.steps.Learning.{HasTaken}
use Rattle.ls_decide.proofs.TakenLemmas.{taken_none, taken_more, works_of_all, works_more, all_here, coded_here, gone_more, gone_front, gone_whole}
use Rattle.ls_decide.proofs.upgrade.learn_all.Goals as goal

pub loop-element-init : goal.loop-element-init
loop-element-init g c = taken_none _ _ _ _ _

pub learn_one-requires-clause-element : goal.learn_one-requires-clause-element
learn_one-requires-clause-element g c =
    subst (λ (k : List Specifier). slice_index_or c.args.elements.now c.loop-element.element-index 0 < length k) (sym c.loop-element.invariant.specifiers) (below_at _ _ _ c.requires.elements c.loop-element-test.true)

pub learn_one-requires-clause-fits : goal.learn_one-requires-clause-fits
learn_one-requires-clause-fits g c =
    let known = specifiers_in c.args.store.now in
    let i = c.loop-element.element-index in
    subst (λ (s : Structures). Fits s (at (specifiers_in c.loop-element.store) (slice_index_or c.args.elements.now i 0))) (sym c.loop-element.invariant.structures)
    (subst (λ (k : List Specifier). Fits (structures_in c.args.store.now) (at k (slice_index_or c.args.elements.now i 0))) (sym c.loop-element.invariant.specifiers)
    (all_here known c.args.elements.now i (Fits (structures_in c.args.store.now)) c.requires.fit c.loop-element-test.true))

-- the element types in it were gone through
pub learn_one-requires-clause-learnt : goal.learn_one-requires-clause-learnt
learn_one-requires-clause-learnt g c =
    let i = c.loop-element.element-index in
    subst (λ (k : List Specifier). HasCodes (codes_in c.loop-element.store) (at k (slice_index_or c.args.elements.now i 0))) (sym c.loop-element.invariant.specifiers)
    (coded_here (specifiers_in c.args.store.now) c.args.elements.now i (codes_in c.loop-element.store) c.requires.inner c.loop-element-test.true c.loop-element.invariant.known)

-- the one that was begun is behind those that were learnt
pub returns-in_err-learn_one-clause-works : goal.returns-in_err-learn_one-clause-works
returns-in_err-learn_one-clause-works g c =
    let known = specifiers_in c.args.store.now in
    let ids = c.args.elements.now in
    let i = c.loop-element.element-index in
    let old = entries_in c.args.store.now in
    let mid = entries_in c.loop-element.store in
    let new = entries_in c.learn_one.new.store in
    let one = subst (λ (k : List Specifier). Works (element_list (at k (slice_index_or ids i 0)) ∷ []) mid new c.loop-element.steps c.learn_one.new.steps) c.loop-element.invariant.specifiers c.learn_one.ensures.works in
    works_of_all (specifiers_at known (take (i + 1) ids)) (specifiers_at known (drop (i + 1) ids)) (specifiers_at known ids) old new c.args.steps.now c.learn_one.new.steps (gone_front known ids i (i + 1))
    (works_more (specifiers_at known (take i ids)) (at known (slice_index_or ids i 0)) (specifiers_at known (take (i + 1) ids)) old mid new c.args.steps.now c.loop-element.steps c.learn_one.new.steps
    (gone_more known ids i c.loop-element-test.true) c.loop-element.invariant.works c.loop-element.invariant.made one)

pub loop-element-preserved : goal.loop-element-preserved
loop-element-preserved g c =
    let known = specifiers_in c.args.store.now in
    let ids = c.args.elements.now in
    let i = c.loop-element.element-index in
    let mid = entries_in c.loop-element.store in
    let new = entries_in c.learn_one.new.store in
    let is = c.loop-element.invariant.specifiers in
    let one = subst (λ (k : List Specifier). Works (element_list (at k (slice_index_or ids i 0)) ∷ []) mid new c.loop-element.steps c.learn_one.new.steps) is c.learn_one.ensures.works in
    let here = subst (λ (k : List Specifier). IsKnown (codes_in c.learn_one.new.store) (at k (slice_index_or ids i 0))) is c.in_ok-learn_one.ensures.known in
    let made = subst (λ (k : List Specifier). HasMade (element_list (at k (slice_index_or ids i 0)) ∷ []) mid new) is c.in_ok-learn_one.ensures.done in
    subst (λ (l : List Specifier). HasTaken (structures_in c.args.store.now) (structures_in c.learn_one.new.store) known (specifiers_in c.learn_one.new.store) (codes_in c.args.store.now) (codes_in c.learn_one.new.store)
    (entries_in c.args.store.now) new c.args.steps.now c.learn_one.new.steps l) (sym (gone_more known ids i c.loop-element-test.true))
    (taken_more _ _ _ _ _ _ _ _ _ _ _ _ _ _ _ _ _ c.loop-element.invariant c.learn_one.ensures.structures c.learn_one.ensures.specifiers c.learn_one.ensures.codes one here made)

pub returns-clause-works : goal.returns-clause-works
returns-clause-works g c =
    let known = specifiers_in c.args.store.now in
    let past = c.loop-element-test.false in
    subst (λ (l : List Specifier). Works (map element_list l) (entries_in c.args.store.now) (entries_in c.loop-element.store) c.args.steps.now c.loop-element.steps)
    (gone_whole known c.args.elements.now c.loop-element.element-index (omega (arith, past))) c.loop-element.invariant.works

pub returns-clause-known : goal.returns-clause-known
returns-clause-known g c =
    let past = c.loop-element-test.false in
    subst (λ (l : List Specifier). All (IsKnown (codes_in c.loop-element.store)) l)
    (gone_whole (specifiers_in c.args.store.now) c.args.elements.now c.loop-element.element-index (omega (arith, past))) c.loop-element.invariant.known

pub returns-clause-done : goal.returns-clause-done
returns-clause-done g c =
    let past = c.loop-element-test.false in
    subst (λ (l : List Specifier). HasMade (map element_list l) (entries_in c.args.store.now) (entries_in c.loop-element.store))
    (gone_whole (specifiers_in c.args.store.now) c.args.elements.now c.loop-element.element-index (omega (arith, past))) c.loop-element.invariant.made
