use Rattle.std.proofs.Common.{◌≡◌, ◌∷◌, take}
use Rattle.ls_arrays.proofs.tuples.before.Given as goal

abbrev pub invariant-loop-m : goal.invariant-loop-m
invariant-loop-m l = l.out ≡ l.n ∷ take l.m-index l.rest
