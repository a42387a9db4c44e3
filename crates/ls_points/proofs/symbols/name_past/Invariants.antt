use Rattle.std.proofs.Common.{◌≡◌, replicate}
use Rattle.ls_points.proofs.symbols.name_past.Given as goal

abbrev pub invariant-loop : goal.invariant-loop
invariant-loop l = l.name ≡ replicate l.counter 65
