use Rattle.std.proofs.Common.{◌≡◌, []}
use Rattle.ls_cells.specs.Kept.{structures_in}
use Rattle.ls_tests.proofs.typep.ask_all.Given as goal

abbrev pub invariant-loop-place : goal.invariant-loop-place
invariant-loop-place g l = structures_in l.session ≡ []
