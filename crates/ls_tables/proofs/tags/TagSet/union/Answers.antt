use Rattle.std.proofs.lemmas.Nat.{or_lt}
use Rattle.ls_tables.proofs.BitLemmas.{is_in-or}
use Rattle.ls_tables.proofs.tags.TagSet.union.Goals as goal

pub invariant_of-result : goal.invariant_of-result
invariant_of-result g c = record { size = c.args.self.size; below = or_lt g.row.N c.args.self.bits c.args.other.bits c.args.self.below c.args.other.below }

pub returns : goal.returns
returns g c = is_in-or c.args.self.bits c.args.other.bits
