use Rattle.std.proofs.Common.{take, ◌≡◌}
use Rattle.std.specs.List.{count_by}
use Rattle.ls_lists.specs.Candidates.{is_predicate}
use Rattle.ls_intern.specs.Places.{specifiers_at}
use Rattle.ls_decide.proofs.candidates.count_predicates.Given as goal

abbrev pub invariant-loop-id : goal.invariant-loop-id
invariant-loop-id l = l.n ≡ count_by is_predicate (specifiers_at l.table (take l.id-index l.atoms))
