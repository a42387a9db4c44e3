-- The value of a specifier over a list of atoms, at a row.
use Rattle.std.specs.Prelude.{ℕ, ◌≡◌, ◌<◌, Bool, true, false, not, List, map}
use Rattle.std.specs.List.{list_all, list_any}
use Rattle.ls_cells.specs.Signs.{at}
use Rattle.ls_cells.specs.declared.formula.Formula.{Formula, fold-Formula}
use Rattle.ls_cells.specs.declared.formula.Formula.TheOpen.{Formula-F}

-- one level, given what the parts are at each row
abbrev pub holds_step : Formula-F (List Bool → Bool) → List Bool → Bool
holds_step Formula-F.All row = true
holds_step Formula-F.Nothing row = false
holds_step (Formula-F.And parts) row = list_all (λ p. p row) parts
holds_step (Formula-F.Or parts) row = list_any (λ p. p row) parts
holds_step (Formula-F.Not part) row = not (part row)
holds_step (Formula-F.Atom i) row = at row i

-- the value at a row, which has the value of each atom
unfoldable pub holds_at : Formula → List Bool → Bool
holds_at = fold-Formula (List Bool → Bool) holds_step

-- the row at a place of columns, of which each has the values of one atom
unfoldable pub row_at : List (List Bool) → ℕ → List Bool
row_at columns j = map (λ c. at c j) columns

-- at each row b holds where a does
abbrev pub NoneOutside : Formula → Formula → List (List Bool) → ℕ → Type 0
NoneOutside a b columns count =
    (j : ℕ) → j < count → holds_at a (row_at columns j) ≡ true → holds_at b (row_at columns j) ≡ true

-- at this row a holds and b does not
abbrev pub IsOutside : Formula → Formula → List (List Bool) → ℕ → ℕ → Type 0
IsOutside a b columns count j =
    (j < count) × (holds_at a (row_at columns j) ≡ true) × (holds_at b (row_at columns j) ≡ false)
