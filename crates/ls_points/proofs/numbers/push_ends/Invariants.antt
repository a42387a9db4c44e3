use Rattle.std.proofs.Common.{◌≡◌, ◌++◌, take}
use Rattle.ls_points.specs.steps.Numbers.{ends_of}
use Rattle.ls_points.proofs.numbers.push_ends.Given as goal

abbrev pub invariant-loop-atom : goal.invariant-loop-atom
invariant-loop-atom l = l.ends.items ≡ l.initial.ends.items ++ ends_of (take l.atom-index l.atoms)
