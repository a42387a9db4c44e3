-- What the binary search asks of its table.
use Rattle.std.specs.Prelude.{ℕ, List, [], ◌∷◌, map, Bool, true, ◌&&◌}
use Rattle.std.specs.Borrow.{Bor}
use Rattle.std.specs.Ordering.{nat_cmp, is_lt}
use Rattle.std.specs.Cmp.Lexicographic.{slice_cmp}

-- the rows of a table, each name as its bytes
abbrev pub rows_of : {V : Type 0} → List (Bor (List ℕ) × V) → List (List ℕ × V)
rows_of rows = map (λ row. (row.0.now, row.1)) rows

-- each name comes before the next one, in the order of texts
abbrev pub ascends : {V : Type 0} → List (List ℕ × V) → Bool
ascends [] = true
ascends (row ∷ []) = true
ascends (row ∷ next ∷ rows) = is_lt (slice_cmp nat_cmp row.0 next.0) && ascends (next ∷ rows)
