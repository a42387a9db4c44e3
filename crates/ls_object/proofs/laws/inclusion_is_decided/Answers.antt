use Rattle.ls_object.proofs.UnderLemmas.{Decides-under_in}
use Rattle.ls_object.proofs.laws.inclusion_is_decided.Goals as goal

pub returns : goal.returns
returns c = Decides-under_in
