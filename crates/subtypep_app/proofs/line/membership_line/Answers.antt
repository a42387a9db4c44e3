use Rattle.std.proofs.Common.{sym, subst, refl, inl}
use Rattle.ls_object.specs.Meaning.{lisp_object}
use Rattle.ls_spec.specs.Fits.{Fits}
use Rattle.ls_spec.specs.Meaning.{specifier}
use Rattle.ls_cells.specs.Kept.{structures_in, entries_in}
use Rattle.subtypep_app.proofs.StopLemmas.{object_stopped, type_stopped}
use Rattle.ls_decide.specs.Answers.{IsRightMembership}
use Rattle.subtypep_app.proofs.line.membership_line.Goals as goal

pub place-requires-clause-object : goal.place-requires-clause-object
place-requires-clause-object g c = c.in-Ok.ensures.object (structures_in c.args.decider.now.session)

pub place-requires-clause-fits : goal.place-requires-clause-fits
place-requires-clause-fits g c = subst (λ structures. Fits structures (specifier c.in-Ok-resolve.spec)) (sym c.requires.structures) c.in-Ok-resolve.ensures.fits

-- the object is written out and the type resolves, and the answer is right about them over the environment's structure types
pub returns-clause-right : goal.returns-clause-right
returns-clause-right g c =
    let o = lisp_object c.in-Ok.object in
    let s = specifier c.in-Ok-resolve.spec in
    let right = subst (λ structures. IsRightMembership structures o s c.args.decider.now.budget c.in_ok-place.field-0) c.requires.structures c.in_ok-place.ensures.right in
    (o, s, c.in-Ok.ensures.ok, c.in-Ok-resolve.ensures.ok, right)

-- what was not read or did not resolve costs nothing
pub returns-in-Err-clause-spends : goal.returns-in-Err-clause-spends
returns-in-Err-clause-spends g c =
    object_stopped c.args.decider.now.budget c.args.env.now (entries_in c.args.decider.now.session) c.args.steps.now c.args.object.now c.args.of.now
    c.in-Err.refusal c.no_object_line.result c.in-Err.ensures.err c.no_object_line.ensures.told

pub returns-in-Err-resolve-clause-spends : goal.returns-in-Err-resolve-clause-spends
returns-in-Err-resolve-clause-spends g c =
    type_stopped c.args.decider.now.budget c.args.env.now (entries_in c.args.decider.now.session) c.args.steps.now c.args.object.now c.args.of.now
    (lisp_object c.in-Ok.object) c.in-Err-resolve.stop c.stopped_line.result c.in-Ok.ensures.ok c.in-Err-resolve.ensures.err c.stopped_line.ensures.told

-- the type is charged within the budget
pub returns-clause-spends : goal.returns-clause-spends
returns-clause-spends g c =
    (_, inl (lisp_object c.in-Ok.object, specifier c.in-Ok-resolve.spec, c.in-Ok.ensures.ok, c.in-Ok-resolve.ensures.ok, refl), c.in_ok-place.ensures.spends)
