use Rattle.ls_object.specs.Meaning.{lisp_object}
use Rattle.ls_spec.specs.Meaning.{specifier}
use Rattle.ls_spec.proofs.TruthLemmas.{Decides-self_contained}
use Rattle.ls_spec.proofs.membership.belongs.Goals as goal

pub returns : goal.returns
returns c = Decides-self_contained (specifier c.args.spec.now) (lisp_object c.args.object.now) c.object_holds.result c.object_holds.ensures c.requires
