use Rattle.std.proofs.Common.{arith}
use Rattle.ls_tables.proofs.BitLemmas.{is_least}
use Rattle.ls_tables.proofs.tags.TagSet.least.Goals as goal

pub returns-else-self-eq0 : goal.returns-else-self-eq0
returns-else-self-eq0 g c = is_least c.args.self.bits g.row.N (omega arith) c.args.self.below (omega arith)
