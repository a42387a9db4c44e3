use Rattle.std.proofs.Common.{◌≡◌, take}
use Rattle.ls_reader.specs.Names.{name_of}
use Rattle.ls_reader.proofs.name.name_of.Given as goal

abbrev pub invariant-loop-item : goal.invariant-loop-item
invariant-loop-item l = l.name ≡ name_of (take l.item-index l.chars)
