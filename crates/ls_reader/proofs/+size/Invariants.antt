use Rattle.std.proofs.Common.{◌≡◌, ◌-◌, ◌^◌, min, take}
use Rattle.ls_reader.specs.Sizes.{size_all}
use Rattle.ls_reader.proofs.+size.Given as goal

abbrev pub invariant-copy::size_all-loop-item : goal.invariant-copy::size_all-loop-item
invariant-copy::size_all-loop-item l = l.count ≡ min (size_all (take l.item-index l.items)) (2 ^ 64 - 1)
