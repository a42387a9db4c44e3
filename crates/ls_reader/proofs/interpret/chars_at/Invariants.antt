use Rattle.std.proofs.Common.{◌≡◌, length}
use Rattle.ls_reader.specs.steps.Lexing.{scan}
use Rattle.ls_reader.specs.declared.interpret.Mode.TheVariants.{Outside}
use Rattle.ls_reader.proofs.FrontLemmas.{with_front}
use Rattle.ls_reader.proofs.interpret.chars_at.Given as goal

abbrev pub invariant-loop-rest : goal.invariant-loop-rest
invariant-loop-rest l = with_front l.chars.items (scan l.mode l.rest) ≡ scan Outside l.text

abbrev pub decreases-loop-rest : goal.decreases-loop-rest
decreases-loop-rest l = length l.rest
