use Rattle.std.proofs.Common.{◌≡◌, ◌+◌, ◌^◌, ◌≤◌, min, drop}
use Rattle.ls_reader.specs.Numbers.{value_on, value}
use Rattle.ls_reader.proofs.number.capped_value.Given as goal

abbrev pub invariant-loop-c : goal.invariant-loop-c
invariant-loop-c l = record {
  so_far : min (value_on l.base l.value (drop l.c-index l.digits)) (2 ^ 64 + 1) ≡ min (value l.base l.digits) (2 ^ 64 + 1);
  capped : l.value ≤ 2 ^ 64 + 1;
}
