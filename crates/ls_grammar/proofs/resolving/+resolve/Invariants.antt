use Rattle.std.proofs.Common.{◌≡◌, ◌+◌, ◌*◌, drop, map}
use Rattle.ls_spec.specs.Meaning.{specifier}
use Rattle.ls_grammar.specs.steps.Running.{run_all, behind, outcome}
use Rattle.ls_grammar.proofs.resolving.+resolve.Given as goal

abbrev pub decreases-resolve_in : goal.decreases-resolve_in
decreases-resolve_in l = 4 * l.left

abbrev pub decreases-resolve_at : goal.decreases-resolve_at
decreases-resolve_at l = 4 * l.left + 3

abbrev pub decreases-resolve_use : goal.decreases-resolve_use
decreases-resolve_use l = 4 * l.left + 1

abbrev pub decreases-resolve_cons : goal.decreases-resolve_cons
decreases-resolve_cons l = 4 * l.left + 2

abbrev pub decreases-resolve_array : goal.decreases-resolve_array
decreases-resolve_array l = 4 * l.left + 2

abbrev pub decreases-resolve_part : goal.decreases-resolve_part
decreases-resolve_part l = 4 * l.left + 1

abbrev pub decreases-resolve_all : goal.decreases-resolve_all
decreases-resolve_all l = 4 * l.left + 1

abbrev pub invariant-resolve_all-loop-part : goal.invariant-resolve_all-loop-part
invariant-resolve_all-loop-part l =
    run_all (outcome l.env l.left) l.parts l.fn.room ≡ behind (map specifier l.specs) (run_all (outcome l.env l.left) (drop l.part-index l.parts) l.room)
