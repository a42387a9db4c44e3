use Rattle.std.proofs.Common.{◌≡◌, ◌-◌, ◌<◌, ◌^◌, arith}
use Rattle.std.specs.Int.RustNames.{bit_xor}
use Rattle.std.proofs.lemmas.Nat.{xor_lt}
use Rattle.ls_tables.proofs.BitLemmas.{is_in-complement}
use Rattle.ls_tables.proofs.tags.TagSet.complement.Goals as goal

pub invariant_of-result : goal.invariant_of-result
invariant_of-result g c = record { size = c.args.self.size; below = xor_lt g.row.N c.args.self.bits c.whole.result c.args.self.below (omega (arith, c.whole.ensures)) }

pub returns : goal.returns
returns g c = λ k.
    let e : c.whole.result ≡ 2 ^ g.row.N - 1 = omega (arith, c.whole.ensures) in
    let l : bit_xor c.args.self.bits c.whole.result < 2 ^ g.row.N = xor_lt g.row.N c.args.self.bits c.whole.result c.args.self.below (omega (arith, c.whole.ensures)) in
    rw e (is_in-complement c.args.self.bits g.row.N k (rw e at l))
