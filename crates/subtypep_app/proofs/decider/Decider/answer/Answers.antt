use Rattle.ls_spec.specs.Meaning.{specifier}
use Rattle.ls_cells.specs.Kept.{structures_in}
use Rattle.subtypep_app.proofs.ChargeLemmas.{spends_pair_if}
use Rattle.subtypep_app.proofs.decider.Decider.answer.Goals as goal

-- what the session did is spent on the pair
pub returns-clause-spends : goal.returns-clause-spends
returns-clause-spends g c =
    spends_pair_if (structures_in c.args.self.now.session) (specifier c.args.a.now) (specifier c.args.b.now) c.args.self.now.budget _ _ _ _
    c.subtypep.result c.subtypep.ensures.right c.subtypep.ensures.done c.subtypep.ensures.paid c.subtypep.ensures.works.rows
