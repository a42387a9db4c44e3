use Rattle.std.proofs.Common.{subst}
use Rattle.ls_object.specs.steps.Places.{IsIndexed}
use Rattle.ls_object.proofs.PlaceLemmas.{found_is}
use Rattle.ls_object.proofs.parents.Parents.place.Goals as goal

pub returns-clause-found : goal.returns-clause-found
returns-clause-found c =
    let indexed = subst (IsIndexed c.self.inside.names.keys) c.self.view_is c.self.invariant in
    found_is c.args.self.now c.self.inside.names.keys c.args.name.now c.get_index_of.result indexed.same c.get_index_of.ensures.index c.get_index_of.ensures.found
