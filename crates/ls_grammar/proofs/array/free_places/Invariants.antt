use Rattle.std.proofs.Common.{◌≡◌, None, replicate}
use Rattle.ls_grammar.proofs.array.free_places.Given as goal

abbrev pub invariant-loop-turn : goal.invariant-loop-turn
invariant-loop-turn l = l.places ≡ replicate l._turn None
