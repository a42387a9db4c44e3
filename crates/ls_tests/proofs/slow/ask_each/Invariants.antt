use Rattle.std.proofs.Common.{◌≡◌, []}
use Rattle.ls_cells.specs.Kept.{structures_in}
use Rattle.ls_tests.proofs.slow.ask_each.Given as goal

abbrev pub invariant-loop-a : goal.invariant-loop-a
invariant-loop-a g l = structures_in l.session ≡ []
