use Rattle.std.proofs.Common.{◌≡◌, take}
use Rattle.ls_reader.proofs.+copy.Given as goal

abbrev pub invariant-copy::copy_all-loop-item : goal.invariant-copy::copy_all-loop-item
invariant-copy::copy_all-loop-item l = l.all.items ≡ take l.item-index l.items
