use Rattle.ls_tables.proofs.SetLemmas.{one_set}
use Rattle.ls_tables.proofs.tags.one_set_for_its_members.Goals as goal

pub returns : goal.returns
returns g c = one_set g.row.N c.args.a c.args.b
