-- How lists of truth values are turned over: each true value is put where it belongs.
use Rattle.std.specs.Prelude.{ℕ, ◌≡◌, ◌≢◌, ◌<◌, Bool, true, ◌&&◌, ◌||◌, ◌==◌, nat_lt, List, [], length, slice_set, slice_index_or}
use Rattle.ls_cells.specs.Signs.{at}

-- the value at place k of list i was made true
pub record RaisedAt (i k : ℕ) (old new : List (List Bool)) : Type 0 where
  pub as_long : length new ≡ length old
  pub here : slice_index_or new i [] ≡ slice_set (slice_index_or old i []) k true
  pub there : (j : ℕ) → j ≢ i → slice_index_or new j [] ≡ slice_index_or old j []

-- the values at place k of the lists that pass the test were made true
pub record Raises (test : ℕ → Bool) (k : ℕ) (old new : List (List Bool)) : Type 0 where
  pub as_long : length new ≡ length old
  pub long : (i : ℕ) → length (slice_index_or new i []) ≡ length (slice_index_or old i [])
  pub value : (i j : ℕ) → i < length old
      → at (slice_index_or new i []) j ≡ (at (slice_index_or old i []) j || ((j == k) && test i))

-- the values of the first n lists stand in the columns
pub record HasTurned (lists : List (List Bool)) (count n : ℕ) (columns : List (List Bool)) : Type 0 where
  pub many : length columns ≡ count
  pub long : (i : ℕ) → i < count → length (slice_index_or columns i []) ≡ length lists
  pub value : (i j : ℕ) → i < count
      → at (slice_index_or columns i []) j ≡ (nat_lt j n && at (slice_index_or lists j []) i)
