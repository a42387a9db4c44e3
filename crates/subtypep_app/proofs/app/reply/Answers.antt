use Rattle.std.proofs.Common.{refl, subst}
use Rattle.subtypep_app.specs.declared.status.Status.TheVariants.{Usage}
use Rattle.subtypep_app.specs.Words.{texts, Means}
use Rattle.subtypep_app.specs.Replies.{usage_text}
use Rattle.subtypep_app.proofs.WordLemmas.{Means-within, Means-small}
use Rattle.subtypep_app.proofs.ToldLemmas.{told_any, usage_bytes}
use Rattle.subtypep_app.proofs.EndingLemmas.{HasReplied-finished, HasReplied-any}
use Rattle.subtypep_app.proofs.app.reply.Goals as goal

-- the budget is within the limit
pub ask-requires : goal.ask-requires
ask-requires g c = Means-within (texts c.args.words.now) _ (subst (Means (texts c.args.words.now)) c.in-Some-Ask.field-0-is c.in-Some-Ask.ensures)

-- the words ask for answers
pub returns-in-Some-Ask-clause-replied : goal.returns-in-Some-Ask-clause-replied
returns-in-Some-Ask-clause-replied g c =
    c.ask.ensures (texts c.args.words.now) (subst (Means (texts c.args.words.now)) c.in-Some-Ask.field-0-is c.in-Some-Ask.ensures)

-- the count and the budget of `gen` are within the limits
pub generate-requires-clause-count : goal.generate-requires-clause-count
generate-requires-clause-count g c =
    (Means-small (texts c.args.words.now) _ _ (subst (Means (texts c.args.words.now)) c.in-Some-Gen.field-0-is c.in-Some-Gen.ensures)).0

pub generate-requires-clause-budget : goal.generate-requires-clause-budget
generate-requires-clause-budget g c =
    (Means-small (texts c.args.words.now) _ _ (subst (Means (texts c.args.words.now)) c.in-Some-Gen.field-0-is c.in-Some-Gen.ensures)).1

-- the words ask for the numbers of a generated text
pub returns-in-Some-Gen-clause-replied : goal.returns-in-Some-Gen-clause-replied
returns-in-Some-Gen-clause-replied g c =
    HasReplied-any (texts c.args.words.now) _ _ _ _ _
    (c.generate.ensures (texts c.args.words.now) (g.S.Source.left c.args.source.now) (g.S.Source.failures c.args.source.now)
    (subst (Means (texts c.args.words.now)) c.in-Some-Gen.field-0-is c.in-Some-Gen.ensures))

-- the words mean nothing: any text will do
pub returns-in-None-clause-replied : goal.returns-in-None-clause-replied
returns-in-None-clause-replied g c =
    let told = told_any (g.S.Source.left c.args.source.now) in
    HasReplied-finished (texts c.args.words.now) _ _ _ _ Usage _ told.0 usage_text _ told.1 (c.in-None.ensures, refl) usage_bytes (λ wrote. wrote)
    refl c.finish.ensures.later c.finish.ensures.ends
