use Rattle.std.proofs.Common.{take, ◌≡◌, filter, length, ◌==◌}
use Rattle.ls_lists.specs.Candidates.{pattern_of}
use Rattle.ls_intern.specs.Places.{AllBelow}
use Rattle.ls_decide.proofs.ListLemmas.{wants_of}
use Rattle.ls_decide.proofs.shapes.of_rank.Given as goal

abbrev pub invariant-loop-id : goal.invariant-loop-id
invariant-loop-id l =
    AllBelow (length l.table) l.out.items
    × (wants_of pattern_of l.table l.out.items ≡ filter (λ p. length p == l.asked) (wants_of pattern_of l.table (take l.id-index l.atoms)))
