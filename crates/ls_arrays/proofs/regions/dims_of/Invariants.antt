use Rattle.std.proofs.Common.{◌≡◌, take}
use Rattle.ls_arrays.proofs.regions.dims_of.Given as goal

abbrev pub invariant-loop-n : goal.invariant-loop-n
invariant-loop-n l = l.out ≡ take l.n-index l.numbers
