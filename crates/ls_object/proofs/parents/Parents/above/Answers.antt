use Rattle.std.proofs.Common.{◌∙◌}
use Rattle.ls_object.proofs.PlaceLemmas.{above_some, above_none}
use Rattle.ls_object.proofs.parents.Parents.above.Goals as goal

pub returns-in-Some : goal.returns-in-Some
returns-in-Some c = above_some c.args.self.now c.as_slice.result.now c.args.at c.index-as_slice-at.result c.in-Some.included c.place.result c.place.ensures.order (c.as_slice.ensures ∙ c.self.view_is) c.index-as_slice-at.is c.in-Some.is c.place.ensures.found

pub returns-in-None : goal.returns-in-None
returns-in-None c = above_none c.args.self.now c.as_slice.result.now c.args.at c.index-as_slice-at.result (c.as_slice.ensures ∙ c.self.view_is) c.index-as_slice-at.is c.in-None.is
