use Rattle.std.proofs.Common.{◌≡◌, drop}
use Rattle.ls_grammar.specs.Dimensions.{places_of}
use Rattle.ls_grammar.proofs.ArrayLemmas.{behind}
use Rattle.ls_grammar.proofs.array.places_of.Given as goal

-- what is still to be read goes behind what was read
abbrev pub invariant-loop-datum : goal.invariant-loop-datum
invariant-loop-datum l = places_of l.data ≡ behind l.places (places_of (drop l.datum-index l.data))
