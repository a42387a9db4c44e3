use Rattle.std.proofs.Common.{◌≡◌, ◌≤◌, ◌^◌, ◌-◌}
use Rattle.ls_decide.specs.steps.Cut.{cut}
use Rattle.ls_decide.proofs.cut.power.Given as goal

abbrev pub invariant-loop-i : goal.invariant-loop-i
invariant-loop-i l = (l.n ≡ cut (2 ^ l.i)) × (l.i ≤ l.k)

abbrev pub decreases-loop-i : goal.decreases-loop-i
decreases-loop-i l = l.k - l.i
