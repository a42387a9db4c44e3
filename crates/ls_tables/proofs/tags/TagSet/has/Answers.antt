use Rattle.std.proofs.Common.{◌≡◌, false, arith}
use Rattle.std.proofs.lemmas.Bool.Decides.{nat_tests}
use Rattle.ls_tables.specs.Sets.{is_in}
use Rattle.ls_tables.proofs.BitLemmas.{is_in_above}
use Rattle.ls_tables.proofs.tags.TagSet.has.Goals as goal

pub returns-else-i-lt64 : goal.returns-else-i-lt64
returns-else-i-lt64 g c =
    let e : is_in c.args.self.bits c.args.i ≡ false = is_in_above c.args.self.bits g.row.N c.args.i c.args.self.below (omega arith) in
    grind (arith, nat_tests)
