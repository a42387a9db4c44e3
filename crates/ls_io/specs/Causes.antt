-- How a failure shows itself in a count of failures.
use Rattle.std.specs.Prelude.{◌≡◌, ℕ, ◌+◌, ◌-◌, ◌^◌, ◌≤◌, min, Result, OnOk, OnErr}

-- A count raised by one. It stands still at the greatest u64.
abbrev pub raised : ℕ → ℕ
raised count = min (count + 1) (2 ^ 64 - 1)

-- A count rose: it is greater now than before, or it is the greatest u64 now.
abbrev pub Rose : ℕ → ℕ → Type 0
Rose before now = raised before ≤ now

-- The count of failures did not fall in a call. It stayed at `Ok`, and `Err` comes only where it rose.
pub record HasCause {T E : Type 0} (before now : ℕ) (result : Result T E) : Type 0 where
  pub later : before ≤ now
  pub passed : OnOk result (now ≡ before)
  pub failed : OnErr result (Rose before now)

-- The count of failures stayed at `Ok`, and rose by one at `Err`.
pub record CountsOnce {T E : Type 0} (before now : ℕ) (result : Result T E) : Type 0 where
  pub passed : OnOk result (now ≡ before)
  pub failed : OnErr result (now ≡ raised before)
