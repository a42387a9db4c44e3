use Rattle.ls_object.specs.Meaning.{lisp_shape}
use Rattle.ls_spec.specs.Meaning.{specifier}
use Rattle.ls_spec.proofs.TruthLemmas.{Decides-unmarked}
use Rattle.ls_spec.proofs.membership.belongs_unmarked.Goals as goal

pub returns-clause-membership : goal.returns-clause-membership
returns-clause-membership c = Decides-unmarked (specifier c.args.spec.now) (lisp_shape c.args.shape.now) c.holds.result c.holds.ensures
