use Rattle.std.proofs.Common.{sym, subst, refl, inl}
use Rattle.ls_spec.specs.Fits.{Fits}
use Rattle.ls_spec.specs.Meaning.{specifier}
use Rattle.ls_decide.specs.Answers.{IsRight}
use Rattle.ls_cells.specs.Kept.{entries_in}
use Rattle.subtypep_app.proofs.StopLemmas.{first_stopped, second_stopped}
use Rattle.subtypep_app.proofs.line.inclusion_line.Goals as goal

pub answer-requires-clause-first : goal.answer-requires-clause-first
answer-requires-clause-first g c = subst (λ structures. Fits structures (specifier c.in-Ok.spec)) (sym c.requires.structures) c.in-Ok.ensures.fits

pub answer-requires-clause-second : goal.answer-requires-clause-second
answer-requires-clause-second g c = subst (λ structures. Fits structures (specifier c.in-Ok-resolve.spec)) (sym c.requires.structures) c.in-Ok-resolve.ensures.fits

-- both types resolve, and the answer is right about them over the environment's structure types
pub returns-clause-right : goal.returns-clause-right
returns-clause-right g c =
    let a = specifier c.in-Ok.spec in
    let b = specifier c.in-Ok-resolve.spec in
    let right = subst (λ structures. IsRight structures a b c.args.decider.now.budget c.in_ok-answer.field-0) c.requires.structures c.in_ok-answer.ensures.right in
    (a, b, c.in-Ok.ensures.ok, c.in-Ok-resolve.ensures.ok, right)

-- a type that did not resolve costs nothing
pub returns-in-Err-clause-spends : goal.returns-in-Err-clause-spends
returns-in-Err-clause-spends g c =
    first_stopped c.args.decider.now.budget c.args.env.now (entries_in c.args.decider.now.session) c.args.steps.now c.args.first.now c.args.second.now
    c.in-Err.stop c.stopped_line.result c.in-Err.ensures.err c.stopped_line.ensures.told

pub returns-in-Err-resolve-clause-spends : goal.returns-in-Err-resolve-clause-spends
returns-in-Err-resolve-clause-spends g c =
    second_stopped c.args.decider.now.budget c.args.env.now (entries_in c.args.decider.now.session) c.args.steps.now c.args.first.now c.args.second.now
    (specifier c.in-Ok.spec) c.in-Err-resolve.stop c.stopped_line-in-Err-resolve.result c.in-Ok.ensures.ok c.in-Err-resolve.ensures.err
    c.stopped_line-in-Err-resolve.ensures.told

-- the pair is charged within the budget
pub returns-clause-spends : goal.returns-clause-spends
returns-clause-spends g c =
    (_, inl (specifier c.in-Ok.spec, specifier c.in-Ok-resolve.spec, c.in-Ok.ensures.ok, c.in-Ok-resolve.ensures.ok, refl), c.in_ok-answer.ensures.spends)
