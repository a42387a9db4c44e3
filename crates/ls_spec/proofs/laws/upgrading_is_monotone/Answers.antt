use Rattle.ls_spec.specs.Membership.{Belongs}
use Rattle.ls_spec.proofs.UpgradeLemmas.{first_within}
use Rattle.ls_spec.proofs.laws.upgrading_is_monotone.Goals as goal

pub returns : goal.returns
returns g structures e f c d p q included = first_within structures (Belongs structures e) (Belongs structures f) c d p q included
