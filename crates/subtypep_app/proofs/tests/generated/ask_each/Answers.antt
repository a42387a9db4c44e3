use Rattle.std.proofs.Common.{◌∙◌, refl}
use Rattle.subtypep_app.proofs.tests.generated.ask_each.Goals as goal

pub loop-query-init : goal.loop-query-init
loop-query-init g c = refl

-- a query keeps the structure types
pub loop-query-preserved : goal.loop-query-preserved
loop-query-preserved g c = c.ask.ensures.structures ∙ c.loop-query.invariant

pub ask-requires : goal.ask-requires
ask-requires g c = record { structures = c.loop-query.invariant ∙ c.requires.structures }
