use Rattle.std.proofs.Common.{ℤ, pos, ◌≡◌, ◌-ℤ◌, ◌∙◌, ap, arith, to_z, of_z}
use Rattle.std.specs.Int.{w128}
use Rattle.std.proofs.lemmas.Int.{ints}
use Rattle.ls_grammar.specs.Levels.{from_to}
use Rattle.ls_grammar.proofs.level.below.Goals as goal

pub returns : goal.returns
returns c =
    let n = c.args.size in
    let hi : to_z w128 (of_z w128 (to_z w128 n -ℤ pos 1)) ≡ pos n -ℤ pos 1 = omega (arith, ints, c.requires.0, c.requires.1) in
    c.from_to.ensures ∙ ap (λ (z : ℤ). from_to (pos 0) z) hi
