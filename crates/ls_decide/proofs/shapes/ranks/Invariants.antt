use Rattle.std.proofs.Common.{take, ◌≡◌, [], fold, map, length}
use Rattle.ls_lists.specs.Candidates.{pattern_of, with_number}
use Rattle.ls_decide.proofs.ListLemmas.{wants_of}
use Rattle.ls_decide.proofs.shapes.ranks.Given as goal

abbrev pub invariant-loop-id : goal.invariant-loop-id
invariant-loop-id l = l.out ≡ fold with_number [] (map length (wants_of pattern_of l.table (take l.id-index l.atoms)))
