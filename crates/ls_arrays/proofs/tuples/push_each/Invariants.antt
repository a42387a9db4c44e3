use Rattle.std.proofs.Common.{◌≡◌, ◌∷◌, ◌++◌, map, take}
use Rattle.ls_arrays.proofs.tuples.push_each.Given as goal

abbrev pub invariant-loop-t : goal.invariant-loop-t
invariant-loop-t l = l.out ≡ l.initial.out ++ map (λ t. l.n ∷ t) (take l.t-index l.rest)
