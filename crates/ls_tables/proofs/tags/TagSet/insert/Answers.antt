use Rattle.std.proofs.Common.{◌<◌, arith}
use Rattle.ls_tables.proofs.BitLemmas.{is_in-set, set_lt}
use Rattle.ls_tables.proofs.tags.TagSet.insert.Goals as goal

pub invariant_of-result : goal.invariant_of-result
invariant_of-result g c = record { size = c.args.self.size; below = set_lt c.args.self.bits c.args.i g.row.N c.requires c.args.self.size c.args.self.below }

pub returns : goal.returns
returns g c = λ k. let l : c.args.i < 64 = omega (arith, c.requires, c.args.self.size) in is_in-set c.args.self.bits c.args.i k l
