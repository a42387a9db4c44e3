use Rattle.std.proofs.Common.{◌≡◌, ℕ, List, map, take, length}
use Rattle.ls_env.specs.Statuses.{finished}
use Rattle.ls_env.specs.steps.Marking.{all_that_come_back, AreNumbered}
use Rattle.ls_env.proofs.finishing.all_finished.Given as goal

abbrev pub invariant-loop-status : goal.invariant-loop-status
invariant-loop-status l =
    (graph : List (List ℕ)) → l.marks ≡ all_that_come_back graph → AreNumbered (length graph) l.statuses
    → l.all ≡ map (finished graph) (take l.status-index l.statuses)
