use Rattle.std.proofs.Common.{ℤ, pos, ◌^◌, ◌∙◌, ap}
use Rattle.ls_grammar.specs.Levels.{from_to}
use Rattle.ls_grammar.proofs.NumberLemmas.{less_one, small_power}
use Rattle.ls_grammar.proofs.level.unsigned_bytes.Goals as goal

pub returns : goal.returns
returns c =
    c.from_to.ensures ∙ ap (λ (z : ℤ). from_to (pos 0) z) (less_one c.power_of_two.result (2 ^ c.args.size) c.power_of_two.ensures (small_power c.args.size c.requires.1))
