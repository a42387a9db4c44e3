use Rattle.std.proofs.Common.{◌≡◌, ◌++◌}
use Rattle.std.specs.List.{flat_map}
use Rattle.std.specs.Str.{chars, IsUtf8}
use Rattle.ls_object.specs.ObjectText.{escaped}
use Rattle.ls_object.proofs.write.symbols.write_escaped.Given as goal

abbrev pub invariant-loop-c : goal.invariant-loop-c
invariant-loop-c l = record {
  written : l.out ≡ l.fn.out ++ flat_map escaped l.yielded;
  left : chars l.name ≡ l.yielded ++ chars l.c-iterator.rest.now;
  utf8 : IsUtf8 l.c-iterator.rest.now;
}
