use Rattle.subtypep_app.specs.Words.{texts}
use Rattle.subtypep_app.proofs.CalmLemmas.{HasRun-replied}
use Rattle.subtypep_app.proofs.app.run.Goals as goal

pub returns-clause-run : goal.returns-clause-run
returns-clause-run g c = HasRun-replied (texts c.args.words.now) _ _ _ _ _ c.reply.ensures.replied
