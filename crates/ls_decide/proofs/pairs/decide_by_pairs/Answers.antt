use Rattle.std.proofs.Common.{◌∷◌, [], ◌∙◌, ap, List, Option, sym, subst}
use Rattle.std.specs.Prelude.{IfSome}
use Rattle.ls_object.specs.Universe.{Structures, IsPlain}
use Rattle.ls_object.specs.Meaning.{lisp_object}
use Rattle.ls_object.specs.declared.object.Object.{Object}
use Rattle.ls_spec.specs.Specifier.{Specifier}
use Rattle.ls_spec.specs.Approximation.{low, high}
use Rattle.ls_cells.specs.Kept.{structures_in, specifiers_in, codes_in, entries_in}
use Rattle.ls_decide.specs.declared.pairs.Pair.{Pair}
use Rattle.ls_decide.specs.Sessions.{HasMade}
use Rattle.ls_decide.specs.steps.Comparing.{IsFound}
use Rattle.ls_decide.specs.steps.Pairs.{first_of, second_of, AreBoundsOf}
use Rattle.ls_decide.proofs.BoundedLemmas.{neither_free}
use Rattle.ls_decide.proofs.WitnessLemmas.{bounds_witness, sure_witness}
use Rattle.ls_decide.proofs.InternLemmas.{both_named, bounds_ready, ready_same, lists_sure}
use Rattle.ls_decide.proofs.DecidedLemmas.{works_bounded, made_bounded}
use Rattle.ls_decide.proofs.WorkLemmas.{Works-front}
use Rattle.ls_decide.proofs.pairs.decide_by_pairs.Goals as goal

pub returns-in_err-o-clause-works : goal.returns-in_err-o-clause-works
returns-in_err-o-clause-works g c = Works-front (_ ∷ []) _ _ _ _ _ c.find_outside.ensures.works

pub returns-in_default-clause-works : goal.returns-in_default-clause-works
returns-in_default-clause-works g c = Works-front (_ ∷ []) _ _ _ _ _ c.find_outside.ensures.works

-- no predicate decides
pub returns-in_default-bounds-clause-right : goal.returns-in_default-bounds-clause-right
returns-in_default-bounds-clause-right g c =
    let known = specifiers_in c.args.store.now in
    let structures = structures_in c.args.store.now in
    let a = first_of known c.args.pairs.now.own in
    let b = second_of known c.args.pairs.now.own in
    let sure = neither_free a b (subst (λ (bounds : Option Pair). AreBoundsOf known bounds a b) c.in_default-bounds.is c.requires.pairs.bounds) in
    sure_witness structures a b (lisp_object c.in-Some.o)
    (subst (λ (found : Option Object). IfSome found (λ o. IsPlain (lisp_object o))) c.in-Some.is c.in_ok-o.ensures.plain) sure.0 sure.1
    (subst (IsFound structures a b) c.in-Some.is c.in_ok-o.ensures.right)

pub returns-in_default-bounds-clause-works : goal.returns-in_default-bounds-clause-works
returns-in_default-bounds-clause-works g c = Works-front (_ ∷ []) _ _ _ _ _ c.find_outside.ensures.works

pub returns-in_default-bounds-clause-done : goal.returns-in_default-bounds-clause-done
returns-in_default-bounds-clause-done g c =
    let known = specifiers_in c.args.store.now in
    let a = first_of known c.args.pairs.now.own in
    let b = second_of known c.args.pairs.now.own in
    subst (λ (ls : List (List Specifier)). HasMade ls (entries_in c.args.store.now) (entries_in c.find_outside.new.store))
    (sym (lists_sure a b (subst (λ (bounds : Option Pair). AreBoundsOf known bounds a b) c.in_default-bounds.is c.requires.pairs.bounds))) c.in_ok-o.ensures.done

-- nothing but the rows changed since
pub find_outside-requires-2-clause-first_fits : goal.find_outside-requires-2-clause-first_fits
find_outside-requires-2-clause-first_fits g c =
    let known = specifiers_in c.args.store.now in
    let a = first_of known c.args.pairs.now.own in
    let b = second_of known c.args.pairs.now.own in
    let bounds = c.in-Some-bounds.bounds in
    let are = subst (λ (bounds : Option Pair). AreBoundsOf known bounds a b) c.in-Some-bounds.is c.requires.pairs.bounds in
    let ready = bounds_ready (structures_in c.args.store.now) (codes_in c.args.store.now) known bounds a b are.1 c.requires.first_fits c.requires.second_fits c.requires.first_learnt c.requires.second_learnt in
    (ready_same _ _ _ _ _ _ bounds c.find_outside.ensures.structures c.find_outside.ensures.codes c.find_outside.ensures.specifiers ready).first_fits

pub find_outside-requires-2-clause-second_fits : goal.find_outside-requires-2-clause-second_fits
find_outside-requires-2-clause-second_fits g c =
    let known = specifiers_in c.args.store.now in
    let a = first_of known c.args.pairs.now.own in
    let b = second_of known c.args.pairs.now.own in
    let bounds = c.in-Some-bounds.bounds in
    let are = subst (λ (bounds : Option Pair). AreBoundsOf known bounds a b) c.in-Some-bounds.is c.requires.pairs.bounds in
    let ready = bounds_ready (structures_in c.args.store.now) (codes_in c.args.store.now) known bounds a b are.1 c.requires.first_fits c.requires.second_fits c.requires.first_learnt c.requires.second_learnt in
    (ready_same _ _ _ _ _ _ bounds c.find_outside.ensures.structures c.find_outside.ensures.codes c.find_outside.ensures.specifiers ready).second_fits

pub find_outside-requires-2-clause-first_learnt : goal.find_outside-requires-2-clause-first_learnt
find_outside-requires-2-clause-first_learnt g c =
    let known = specifiers_in c.args.store.now in
    let a = first_of known c.args.pairs.now.own in
    let b = second_of known c.args.pairs.now.own in
    let bounds = c.in-Some-bounds.bounds in
    let are = subst (λ (bounds : Option Pair). AreBoundsOf known bounds a b) c.in-Some-bounds.is c.requires.pairs.bounds in
    let ready = bounds_ready (structures_in c.args.store.now) (codes_in c.args.store.now) known bounds a b are.1 c.requires.first_fits c.requires.second_fits c.requires.first_learnt c.requires.second_learnt in
    (ready_same _ _ _ _ _ _ bounds c.find_outside.ensures.structures c.find_outside.ensures.codes c.find_outside.ensures.specifiers ready).first_learnt

pub find_outside-requires-2-clause-second_learnt : goal.find_outside-requires-2-clause-second_learnt
find_outside-requires-2-clause-second_learnt g c =
    let known = specifiers_in c.args.store.now in
    let a = first_of known c.args.pairs.now.own in
    let b = second_of known c.args.pairs.now.own in
    let bounds = c.in-Some-bounds.bounds in
    let are = subst (λ (bounds : Option Pair). AreBoundsOf known bounds a b) c.in-Some-bounds.is c.requires.pairs.bounds in
    let ready = bounds_ready (structures_in c.args.store.now) (codes_in c.args.store.now) known bounds a b are.1 c.requires.first_fits c.requires.second_fits c.requires.first_learnt c.requires.second_learnt in
    (ready_same _ _ _ _ _ _ bounds c.find_outside.ensures.structures c.find_outside.ensures.codes c.find_outside.ensures.specifiers ready).second_learnt

pub returns-in_err-witness-clause-works : goal.returns-in_err-witness-clause-works
returns-in_err-witness-clause-works g c =
    let known = specifiers_in c.args.store.now in
    let a = first_of known c.args.pairs.now.own in
    let b = second_of known c.args.pairs.now.own in
    let bounds = c.in-Some-bounds.bounds in
    let are = subst (λ (bounds : Option Pair). AreBoundsOf known bounds a b) c.in-Some-bounds.is c.requires.pairs.bounds in
    let first = ap (λ (k : List Specifier). first_of k bounds) c.find_outside.ensures.specifiers ∙ are.1.first_is in
    let second = ap (λ (k : List Specifier). second_of k bounds) c.find_outside.ensures.specifiers ∙ are.1.second_is in
    works_bounded a b are.0 _ _ first second _ _ _ _ _ _ c.find_outside.ensures.works c.in_ok-o.ensures.done c.find_outside-2.ensures.works

pub returns-in_default-2-clause-works : goal.returns-in_default-2-clause-works
returns-in_default-2-clause-works g c =
    let known = specifiers_in c.args.store.now in
    let a = first_of known c.args.pairs.now.own in
    let b = second_of known c.args.pairs.now.own in
    let bounds = c.in-Some-bounds.bounds in
    let are = subst (λ (bounds : Option Pair). AreBoundsOf known bounds a b) c.in-Some-bounds.is c.requires.pairs.bounds in
    let first = ap (λ (k : List Specifier). first_of k bounds) c.find_outside.ensures.specifiers ∙ are.1.first_is in
    let second = ap (λ (k : List Specifier). second_of k bounds) c.find_outside.ensures.specifiers ∙ are.1.second_is in
    works_bounded a b are.0 _ _ first second _ _ _ _ _ _ c.find_outside.ensures.works c.in_ok-o.ensures.done c.find_outside-2.ensures.works

pub returns-in_default-2-clause-done : goal.returns-in_default-2-clause-done
returns-in_default-2-clause-done g c =
    let known = specifiers_in c.args.store.now in
    let a = first_of known c.args.pairs.now.own in
    let b = second_of known c.args.pairs.now.own in
    let bounds = c.in-Some-bounds.bounds in
    let are = subst (λ (bounds : Option Pair). AreBoundsOf known bounds a b) c.in-Some-bounds.is c.requires.pairs.bounds in
    let first = ap (λ (k : List Specifier). first_of k bounds) c.find_outside.ensures.specifiers ∙ are.1.first_is in
    let second = ap (λ (k : List Specifier). second_of k bounds) c.find_outside.ensures.specifiers ∙ are.1.second_is in
    made_bounded a b are.0 _ _ first second _ _ _ c.in_ok-o.ensures.done c.find_outside-2.ensures.works.grows c.in_ok-witness.ensures.done

-- one between the bounds is a witness
pub returns-clause-right : goal.returns-clause-right
returns-clause-right g c =
    let structures = structures_in c.args.store.now in
    let known = specifiers_in c.args.store.now in
    let a = first_of known c.args.pairs.now.own in
    let b = second_of known c.args.pairs.now.own in
    let bounds = c.in-Some-bounds.bounds in
    let are = subst (λ (bounds : Option Pair). AreBoundsOf known bounds a b) c.in-Some-bounds.is c.requires.pairs.bounds in
    let first = ap (λ (k : List Specifier). first_of k bounds) c.find_outside.ensures.specifiers ∙ are.1.first_is in
    let second = ap (λ (k : List Specifier). second_of k bounds) c.find_outside.ensures.specifiers ∙ are.1.second_is in
    let here = both_named (λ s t. IsFound structures s t c.in_ok-witness.field-0) _ _ (low a) (high b) first second
    (subst (λ (s : Structures). IsFound s (first_of (specifiers_in c.find_outside.new.store) bounds) (second_of (specifiers_in c.find_outside.new.store) bounds) c.in_ok-witness.field-0) c.find_outside.ensures.structures c.in_ok-witness.ensures.right) in
    bounds_witness structures a b (lisp_object c.in-Some-2.witness)
    (subst (λ (found : Option Object). IfSome found (λ o. IsPlain (lisp_object o))) c.in-Some-2.is c.in_ok-witness.ensures.plain)
    (subst (IsFound structures (low a) (high b)) c.in-Some-2.is here)

pub returns-clause-works : goal.returns-clause-works
returns-clause-works g c =
    let known = specifiers_in c.args.store.now in
    let a = first_of known c.args.pairs.now.own in
    let b = second_of known c.args.pairs.now.own in
    let bounds = c.in-Some-bounds.bounds in
    let are = subst (λ (bounds : Option Pair). AreBoundsOf known bounds a b) c.in-Some-bounds.is c.requires.pairs.bounds in
    let first = ap (λ (k : List Specifier). first_of k bounds) c.find_outside.ensures.specifiers ∙ are.1.first_is in
    let second = ap (λ (k : List Specifier). second_of k bounds) c.find_outside.ensures.specifiers ∙ are.1.second_is in
    works_bounded a b are.0 _ _ first second _ _ _ _ _ _ c.find_outside.ensures.works c.in_ok-o.ensures.done c.find_outside-2.ensures.works

pub returns-clause-done : goal.returns-clause-done
returns-clause-done g c =
    let known = specifiers_in c.args.store.now in
    let a = first_of known c.args.pairs.now.own in
    let b = second_of known c.args.pairs.now.own in
    let bounds = c.in-Some-bounds.bounds in
    let are = subst (λ (bounds : Option Pair). AreBoundsOf known bounds a b) c.in-Some-bounds.is c.requires.pairs.bounds in
    let first = ap (λ (k : List Specifier). first_of k bounds) c.find_outside.ensures.specifiers ∙ are.1.first_is in
    let second = ap (λ (k : List Specifier). second_of k bounds) c.find_outside.ensures.specifiers ∙ are.1.second_is in
    made_bounded a b are.0 _ _ first second _ _ _ c.in_ok-o.ensures.done c.find_outside-2.ensures.works.grows c.in_ok-witness.ensures.done
