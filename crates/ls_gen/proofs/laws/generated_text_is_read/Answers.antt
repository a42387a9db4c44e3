use Rattle.ls_gen.proofs.SizeLemmas.{generated_short}
use Rattle.ls_gen.proofs.ReadingLemmas.{generated_read}
use Rattle.ls_gen.proofs.laws.generated_text_is_read.Goals as goal

pub returns-clause-short : goal.returns-clause-short
returns-clause-short c n few = generated_short n few

pub returns-clause-forms : goal.returns-clause-forms
returns-clause-forms c n few = generated_read n few
