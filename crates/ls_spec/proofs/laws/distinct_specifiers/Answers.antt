use Rattle.ls_spec.proofs.DistinctLemmas.{Decides-same, AreDistinctOf-distinct}
use Rattle.ls_spec.proofs.laws.distinct_specifiers.Goals as goal

pub returns-clause-same : goal.returns-clause-same
returns-clause-same c = Decides-same

pub returns-clause-distinct : goal.returns-clause-distinct
returns-clause-distinct c = AreDistinctOf-distinct
