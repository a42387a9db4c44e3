-- What was counted so far.
use Rattle.std.specs.Prelude.{ℕ, ◌≡◌, ◌<◌, ◌+◌, List, [], ◌∷◌, ◌++◌, Option, None, Some, map, length}
use Rattle.ls_spec.specs.Specifier.{Specifier}
use Rattle.ls_lists.specs.Walks.{rows_with, rows, part_with, walk, total}
use Rattle.ls_intern.specs.Places.{specifiers_at, AllBelow}
use Rattle.ls_decide.specs.steps.Cut.{cut}

-- the lists that were counted, in order
abbrev pub lists_counted : List Specifier → List (List ℕ × ℕ) → List (List Specifier)
lists_counted known entries = map (λ e. specifiers_at known e.0) entries

-- each key names known specifiers, and its value is how many rows they have, cut
abbrev pub RowsKept : List Specifier → List (List ℕ × ℕ) → Type 0
RowsKept known [] = Unit {0}
RowsKept known (e ∷ entries) = (AllBelow (length known) e.0 × (e.1 ≡ cut (rows (specifiers_at known e.0)))) × RowsKept known entries

pub record AreCounts (known : List Specifier) (entries : List (List ℕ × ℕ)) (sum : ℕ) : Type 0 where
  pub each : RowsKept known entries
  pub together : sum ≡ cut (total (lists_counted known entries))

-- a list was counted with all that it reaches, and this is how many rows it has
pub record IsCounted (known list : List Specifier) (old new : List (List ℕ × ℕ)) (sum n : ℕ) : Type 0 where
  pub rows_are : n ≡ cut (rows list)
  pub lists_are : lists_counted known new ≡ walk list (lists_counted known old)
  pub counts : AreCounts known new sum

-- it was counted, or all lists together cost more than the budget
abbrev pub Counts : List Specifier → List Specifier → ℕ → List (List ℕ × ℕ) → List (List ℕ × ℕ) → ℕ → Option ℕ → Type 0
Counts known list budget old new sum (Some n) = IsCounted known list old new sum n
Counts known list budget old new sum None = budget < total (walk list (lists_counted known old))

-- one list was counted, with these pairs of a row of its cars and one of its cdrs
pub record Adds (key : List ℕ) (list : List Specifier) (pairs : ℕ) (old new : List (List ℕ × ℕ)) (before after n : ℕ) : Type 0 where
  pub put : new ≡ old ++ (key, n) ∷ []
  pub rows_are : n ≡ cut (rows_with pairs list)
  pub total_is : after ≡ cut (before + cut (part_with pairs list))
