use Rattle.std.proofs.Common.{◌≡◌, []}
use Rattle.ls_cells.specs.Kept.{structures_in}
use Rattle.ls_tests.proofs.slow.ask_all.Given as goal

abbrev pub invariant-loop-b : goal.invariant-loop-b
invariant-loop-b g l = structures_in l.session ≡ []
