use Rattle.std.proofs.Common.{◌≡◌, ◌&&◌, nat_lt, length, All}
use Rattle.std.specs.Prelude.{nat_le}
use Rattle.ls_cells.specs.Signs.{tabulate}
use Rattle.ls_cells.proofs.transpose.blank.Given as goal

abbrev pub invariant-loop-i : goal.invariant-loop-i
invariant-loop-i l = (length l.columns.items ≡ l.i) × All (λ c. c ≡ tabulate l.len (λ i. nat_le 0 i && nat_lt i 0)) l.columns.items
