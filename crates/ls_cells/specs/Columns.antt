-- Rows turned into columns.
use Rattle.std.specs.Prelude.{ℕ, Bool, List, map}
use Rattle.std.specs.List.{range_with_len}
use Rattle.ls_cells.specs.declared.rows.Row.{Row}
use Rattle.ls_cells.specs.Rows.{signs_of}
use Rattle.ls_cells.specs.Formulas.{row_at}

-- for each of n atoms its truth value at each row
unfoldable pub columns_of : ℕ → List Row → List (List Bool)
columns_of n rows = map (row_at (signs_of rows)) (range_with_len 0 n)
