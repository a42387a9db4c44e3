use Rattle.std.proofs.Common.{◌<◌, length}
use Rattle.ls_object.specs.declared.symbol.Symbol.{Symbol}
use Rattle.ls_object.specs.steps.Places.{IsAt}
use Rattle.ls_object.proofs.PlaceLemmas.{IsOnWay}
use Rattle.ls_object.proofs.parents.Parents.leads.Given as goal

-- the chains from the first name to the second are those from the name that was come to
abbrev pub invariant-loop-at : goal.invariant-loop-at
invariant-loop-at l =
    (l.at < length l.fn.self)
    × ((x y : Symbol) → IsAt l.fn.self l.fn.from x → IsAt l.fn.self l.fn.to y → IsOnWay l.fn.self x y l.at)

abbrev pub decreases-loop-at : goal.decreases-loop-at
decreases-loop-at l = l.at
