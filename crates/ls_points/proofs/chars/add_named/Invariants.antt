use Rattle.std.proofs.Common.{◌≡◌, fold, take}
use Rattle.ls_points.specs.steps.Characters.{with_characters}
use Rattle.ls_points.proofs.chars.add_named.Given as goal

abbrev pub invariant-loop-atom : goal.invariant-loop-atom
invariant-loop-atom l = l.named.keys ≡ fold with_characters l.initial.named.keys (take l.atom-index l.atoms)
