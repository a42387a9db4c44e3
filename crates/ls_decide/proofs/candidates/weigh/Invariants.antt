use Rattle.std.proofs.Common.{take, ◌≡◌}
use Rattle.std.specs.List.{sum_by}
use Rattle.ls_intern.specs.Places.{specifiers_at}
use Rattle.ls_decide.specs.steps.Cut.{cut}
use Rattle.ls_decide.specs.steps.Weights.{weight}
use Rattle.ls_decide.proofs.candidates.weigh.Given as goal

abbrev pub invariant-loop-id : goal.invariant-loop-id
invariant-loop-id l = l.n ≡ cut (sum_by weight (specifiers_at l.table (take l.id-index l.atoms)))
