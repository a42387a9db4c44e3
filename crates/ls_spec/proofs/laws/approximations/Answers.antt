use Rattle.ls_spec.proofs.ApproximationLemmas.{low_within, within_high}
use Rattle.ls_spec.proofs.laws.approximations.Goals as goal

pub returns-clause-lower : goal.returns-clause-lower
returns-clause-lower c = low_within

pub returns-clause-upper : goal.returns-clause-upper
returns-clause-upper c = within_high
