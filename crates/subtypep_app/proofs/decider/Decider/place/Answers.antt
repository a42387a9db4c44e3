use Rattle.ls_object.specs.Meaning.{lisp_object}
use Rattle.ls_spec.specs.Meaning.{specifier}
use Rattle.ls_cells.specs.Kept.{structures_in}
use Rattle.subtypep_app.proofs.ChargeLemmas.{spends_type_if}
use Rattle.subtypep_app.proofs.decider.Decider.place.Goals as goal

-- what the session did is spent on the type
pub returns-clause-spends : goal.returns-clause-spends
returns-clause-spends g c =
    spends_type_if (structures_in c.args.self.now.session) (lisp_object c.args.object.now) (specifier c.args.s.now) c.args.self.now.budget _ _ _ _
    c.typep.result c.typep.ensures.right c.typep.ensures.done c.typep.ensures.paid c.typep.ensures.works.rows
