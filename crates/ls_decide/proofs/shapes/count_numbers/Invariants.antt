use Rattle.std.proofs.Common.{take, ◌≡◌, [], fold}
use Rattle.std.specs.List.{flat_map}
use Rattle.ls_lists.specs.Candidates.{pattern_of, number_at, with_number}
use Rattle.ls_decide.proofs.ListLemmas.{wants_of}
use Rattle.ls_decide.proofs.shapes.count_numbers.Given as goal

abbrev pub invariant-loop-id : goal.invariant-loop-id
invariant-loop-id l = l.seen.keys ≡ fold with_number [] (flat_map (number_at l.place) (wants_of pattern_of l.table (take l.id-index l.atoms)))
