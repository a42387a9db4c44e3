use Rattle.std.proofs.Common.{arith}
use Rattle.ls_tables.proofs.SizeLemmas.{sized_at, ascii_at}
use Rattle.ls_tables.proofs.texts.sized_text.Goals as goal

pub returns-clause-text : goal.returns-clause-text
returns-clause-text c head sized = sized_at head 0 c.args.texts.now _ c.args.bits c.args.bits sized c.requires (omega arith)

pub returns-clause-ascii : goal.returns-clause-ascii
returns-clause-ascii c ascii = ascii_at c.args.texts.now _ c.args.bits ascii c.requires
