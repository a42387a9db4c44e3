use Rattle.ls_object.proofs.OneTextLemmas.{one_text}
use Rattle.ls_object.proofs.laws.one_text_one_object.Goals as goal

pub returns : goal.returns
returns c = one_text
