use Rattle.std.proofs.Common.{subst}
use Rattle.ls_object.specs.steps.Places.{IsIndexed}
use Rattle.ls_object.proofs.PlaceLemmas.{contains_is}
use Rattle.ls_object.proofs.parents.Parents.contains.Goals as goal

pub returns : goal.returns
returns c = contains_is c.args.self.now c.self.inside.names.keys c.args.name.now c.contains.result (subst (IsIndexed c.self.inside.names.keys) c.self.view_is c.self.invariant) c.contains.ensures
