use Rattle.std.proofs.Common.{◌≡◌}
use Rattle.ls_env.specs.Reaching.{falses}
use Rattle.ls_env.proofs.walk.Seen.new.Given as goal

abbrev pub invariant-loop : goal.invariant-loop
invariant-loop l = l.marked ≡ falses l.counter
