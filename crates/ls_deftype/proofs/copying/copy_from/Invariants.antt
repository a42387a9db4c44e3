use Rattle.std.proofs.Common.{◌≡◌, ◌+◌}
use Rattle.ls_reader.specs.Sizes.{size_all}
use Rattle.ls_deftype.specs.steps.Begun.{left, left_in, ended, plugged, work}
use Rattle.ls_deftype.proofs.copying.copy_from.Given as goal

abbrev pub invariant-turns : goal.invariant-turns
invariant-turns l = record {
  same : plugged l.below (ended l.top) ≡ ended l.fn.begun;
  room : l.room + size_all (left l.fn.begun) ≡ l.fn.room + (left_in l.below + size_all (left l.top));
}

abbrev pub decreases-turns : goal.decreases-turns
decreases-turns l = work l.below l.top
