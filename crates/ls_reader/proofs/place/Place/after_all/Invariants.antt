use Rattle.std.proofs.Common.{◌≡◌, ◌+◌, ◌*◌, ◌≤◌, drop}
use Rattle.ls_reader.specs.Places.{after_all}
use Rattle.ls_reader.proofs.place.Place.after_all.Given as goal

abbrev pub invariant-loop-c : goal.invariant-loop-c
invariant-loop-c l = record {
  so_far : after_all l.place (drop l.c-index l.text) ≡ after_all l.fn.self l.text;
  byte : l.place.byte ≤ l.fn.self.byte + 4 * l.c-index;
  line : l.place.line ≤ l.fn.self.line + l.c-index;
  column : l.place.column ≤ l.fn.self.column + l.c-index;
}
