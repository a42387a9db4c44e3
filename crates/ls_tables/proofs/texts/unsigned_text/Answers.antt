use Rattle.std.proofs.Common.{refl, codes}
use Rattle.ls_object.specs.ObjectText.{natural_text}
use Rattle.ls_tables.proofs.texts.unsigned_text.Goals as goal

pub returns-clause-text : goal.returns-clause-text
unfolding natural_text
returns-clause-text c = c.sized_text.ensures.text (codes "(UNSIGNED-BYTE ") refl

pub returns-clause-ascii : goal.returns-clause-ascii
returns-clause-ascii c = c.sized_text.ensures.ascii refl
