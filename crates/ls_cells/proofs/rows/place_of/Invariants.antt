use Rattle.std.proofs.Common.{ℕ, ◌≡◌, ◌<◌, get_or}
use Rattle.ls_cells.specs.Rows.{signs_of}
use Rattle.ls_cells.proofs.rows.place_of.Given as goal

abbrev pub invariant-rows : goal.invariant-rows
invariant-rows l = (j : ℕ) → j < l.i → get_or (signs_of l.rows) j l.signs ≡ l.signs → ⊥
