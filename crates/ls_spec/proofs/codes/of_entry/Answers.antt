use Rattle.std.proofs.Common.{ℤ, pos, ◌≡◌, ◌∙◌, ◌-ℤ◌, ◌^◌, ◌-◌, ap, sym, arith, to_z, of_z}
use Rattle.std.specs.Int.{w128}
use Rattle.std.proofs.lemmas.Int.{ints}
use Rattle.ls_spec.specs.Entries.{integers_within, entry_specifier}
use Rattle.ls_spec.proofs.codes.of_entry.Goals as goal

pub returns-in-UnsignedByte : goal.returns-in-UnsignedByte
returns-in-UnsignedByte c =
    let top : ℤ = pos (2 ^ c.in-UnsignedByte.bits) -ℤ pos 1 in
    let hi : to_z w128 (of_z w128 (to_z w128 (of_z w128 c.power.result) -ℤ pos 1)) ≡ top = grind (arith, ints) in
    c.integers-in-UnsignedByte.ensures ∙ ap (integers_within (pos 0)) hi ∙ ap entry_specifier (sym c.in-UnsignedByte.is)

pub returns-in-SignedByte : goal.returns-in-SignedByte
returns-in-SignedByte c =
    let half : ℤ = pos (2 ^ (c.in-SignedByte.bits - 1)) in
    let lo : to_z w128 (of_z w128 (pos 0 -ℤ to_z w128 (of_z w128 c.power-in-SignedByte.result))) ≡ pos 0 -ℤ half = grind (arith, ints) in
    let hi : to_z w128 (of_z w128 (to_z w128 (of_z w128 c.power-in-SignedByte-2.result) -ℤ pos 1)) ≡ half -ℤ pos 1 = grind (arith, ints) in
    c.integers-in-SignedByte.ensures ∙ (λ i. integers_within (lo i) (hi i)) ∙ ap entry_specifier (sym c.in-SignedByte.is)
