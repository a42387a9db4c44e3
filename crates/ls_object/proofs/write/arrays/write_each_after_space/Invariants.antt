use Rattle.std.proofs.Common.{◌≡◌, ◌++◌, take}
use Rattle.std.specs.List.{flat_map}
use Rattle.ls_object.specs.Writing.{after_space}
use Rattle.ls_object.proofs.write.arrays.write_each_after_space.Given as goal

abbrev pub invariant-loop-n : goal.invariant-loop-n
invariant-loop-n l = l.out ≡ l.fn.out ++ flat_map after_space (take l.n-index l.numbers)
