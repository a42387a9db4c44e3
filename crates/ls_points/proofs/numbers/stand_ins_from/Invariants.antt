use Rattle.std.proofs.Common.{◌≤◌, ◌+◌, ◌*◌, ◌∷◌, length, take, drop}
use Rattle.ls_spec.specs.Fits.{IsSmall}
use Rattle.ls_points.specs.steps.Numbers.{AreRisingFrom}
use Rattle.ls_points.proofs.GapLemmas.{Stands}
use Rattle.ls_points.proofs.numbers.stand_ins_from.Given as goal

abbrev pub invariant-loop-end : goal.invariant-loop-end
invariant-loop-end l = record {
  stands : Stands (l.fn.least ∷ take l.end-index l.rest) l.last l.out.items;
  small : IsSmall l.last;
  rising : AreRisingFrom l.last (drop l.end-index l.rest);
  count : length l.out.items ≤ 3 + 3 * l.end-index;
}
