use Rattle.std.proofs.Common.{◌≡◌}
use Rattle.ls_cells.specs.Kept.{structures_in}
use Rattle.subtypep_app.proofs.tests.generated.ask_each.Given as goal

abbrev pub invariant-loop-query : goal.invariant-loop-query
invariant-loop-query g l = structures_in l.session ≡ structures_in l.fn.session
