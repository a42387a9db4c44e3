use Rattle.std.proofs.Common.{◌≡◌, false, length}
use Rattle.ls_reader.specs.steps.Delimited.{content}
use Rattle.ls_reader.proofs.FrontLemmas.{with_front}
use Rattle.ls_reader.proofs.string.string_at.Given as goal

abbrev pub invariant-loop-rest : goal.invariant-loop-rest
invariant-loop-rest l = with_front l.content (content l.after_escape l.rest) ≡ content false l.text

abbrev pub decreases-loop-rest : goal.decreases-loop-rest
decreases-loop-rest l = length l.rest
