use Rattle.std.proofs.Common.{◌≡◌, drop}
use Rattle.ls_env.specs.Reaching.{see_all}
use Rattle.ls_env.proofs.walk.Seen.see_all.Given as goal

abbrev pub invariant-loop-number : goal.invariant-loop-number
invariant-loop-number l = see_all (drop l.number-index l.numbers) l.self ≡ see_all l.numbers l.fn.self
