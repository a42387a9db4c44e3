use Rattle.ls_spec.proofs.BoundLemmas.{Decides-no_predicate}
use Rattle.ls_spec.proofs.laws.free_predicates.Goals as goal

pub returns : goal.returns
returns c = Decides-no_predicate
