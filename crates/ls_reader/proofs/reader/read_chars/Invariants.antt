use Rattle.std.proofs.Common.{length}
use Rattle.ls_reader.specs.steps.Running.{reading, IsSmall}
use Rattle.ls_reader.proofs.TurnLemmas.{Stands}
use Rattle.ls_reader.proofs.reader.read_chars.Given as goal

abbrev pub invariant-lexemes : goal.invariant-lexemes
invariant-lexemes l = record {
  stands : Stands l.text (reading l.reader);
  small : IsSmall l.reader.place l.reader.rest.now;
}

abbrev pub decreases-lexemes : goal.decreases-lexemes
decreases-lexemes l = length l.reader.rest.now
