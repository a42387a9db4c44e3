use Rattle.ls_tables.proofs.BitLemmas.{is_in-and}
use Rattle.ls_tables.proofs.tags.TagSet.meet.Goals as goal

pub returns : goal.returns
returns g c = is_in-and c.args.self.bits c.args.other.bits
