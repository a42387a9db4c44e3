use Rattle.ls_spec.proofs.EntryLemmas.{Belongs-code}
use Rattle.ls_spec.proofs.laws.types_of_codes.Goals as goal

pub returns : goal.returns
returns c = Belongs-code
