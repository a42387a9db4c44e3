use Rattle.std.proofs.Common.{◌≤◌, ◌-◌, ◌^◌, ◌∙◌, arith}
use Rattle.ls_grammar.specs.Levels.{from_to}
use Rattle.ls_grammar.proofs.NumberLemmas.{less_one, negated, small_power}
use Rattle.ls_grammar.proofs.level.signed_bytes.Goals as goal

pub returns : goal.returns
returns c =
    let n = c.args.size - 1 in
    let few : n ≤ 64 = omega (arith, c.requires.1) in
    let lo = negated c.power_of_two-half.result (2 ^ n) c.power_of_two-half.ensures (small_power n few) in
    let hi = less_one c.power_of_two-half.result (2 ^ n) c.power_of_two-half.ensures (small_power n few) in
    c.from_to.ensures ∙ (λ i. from_to (lo i) (hi i))
