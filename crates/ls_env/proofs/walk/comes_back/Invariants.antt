use Rattle.std.proofs.Common.{◌≡◌, ◌-◌, length}
use Rattle.ls_env.specs.Reaching.{walk, see_all, body, blank}
use Rattle.ls_env.proofs.walk.comes_back.Given as goal

abbrev pub invariant-loop-at : goal.invariant-loop-at
invariant-loop-at l = walk l.graph (length l.graph - l.at) l.at l.seen ≡ walk l.graph (length l.graph) 0 (see_all (body l.graph l.number) (blank (length l.graph)))
