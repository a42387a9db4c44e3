-- Sets of numbers as bits: the bit at a number's place tells whether the number is in the set.
use Rattle.std.specs.Prelude.{ℕ, ◌≡◌, ◌<◌, ◌==◌, Bool, true, false}
use Rattle.std.specs.Int.{bit_at}

-- whether a number is in the set with these bits
abbrev pub is_in : ℕ → ℕ → Bool
is_in bits i = bit_at bits i == 1

-- no number is in it
abbrev pub IsEmpty : ℕ → Type 0
IsEmpty bits = (k : ℕ) → is_in bits k ≡ false

-- a number below n that is in it, and no lesser one is
pub record IsLeast (n bits i : ℕ) : Type 0 where
  pub within : i < n
  pub has : is_in bits i ≡ true
  pub least : (k : ℕ) → k < i → is_in bits k ≡ false

-- the same numbers below n are in both
abbrev pub HaveSameMembers : ℕ → ℕ → ℕ → Type 0
HaveSameMembers n a b = (k : ℕ) → k < n → is_in a k ≡ is_in b k
