use Rattle.std.proofs.Common.{take, ◌≡◌, false}
use Rattle.std.specs.List.{list_any}
use Rattle.ls_lists.specs.Candidates.{is_string}
use Rattle.ls_intern.specs.Places.{specifiers_at}
use Rattle.ls_decide.proofs.candidates.has_string.Given as goal

abbrev pub invariant-loop-id : goal.invariant-loop-id
invariant-loop-id l = list_any is_string (specifiers_at l.table (take l.id-index l.atoms)) ≡ false
