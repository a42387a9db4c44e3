use Rattle.std.proofs.Common.{◌≡◌, ◌+◌, ◌++◌, take, drop}
use Rattle.ls_reader.specs.Sizes.{size_all}
use Rattle.ls_deftype.proofs.copying.copy_all_onto.Given as goal

abbrev pub invariant-loop-datum : goal.invariant-loop-datum
invariant-loop-datum l = record {
  are : l.out ≡ l.fn.out ++ take l.datum-index l.data;
  room : l.room + size_all l.data ≡ l.fn.room + size_all (drop l.datum-index l.data);
}
