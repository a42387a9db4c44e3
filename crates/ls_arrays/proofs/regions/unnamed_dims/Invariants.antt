use Rattle.std.proofs.Common.{◌≡◌, replicate, suc}
use Rattle.ls_arrays.proofs.regions.unnamed_dims.Given as goal

abbrev pub invariant-loop-place : goal.invariant-loop-place
invariant-loop-place l = l.out ≡ replicate (suc l.place) 0
