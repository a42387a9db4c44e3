-- Numbers below a bound, as trees are made of them.
use Rattle.std.proofs.Common.{ℕ, zero, suc, ◌<◌, ◌≤◌, ◌+◌, List, [], ◌∷◌, length, get_or, max, arith}
use Rattle.ls_intern.specs.Places.{AllBelow}

-- the least bound of the numbers
abbrev pub above : List ℕ → ℕ
above [] = 0
above (id ∷ ids) = max (id + 1) (above ids)

pub above_least : (n : ℕ) (ids : List ℕ) → AllBelow n ids → above ids ≤ n
above_least n [] h = omega arith
above_least n (id ∷ ids) h = let i = h.0 in let r = above_least n ids h.1 in omega arith

pub below_above : (ids : List ℕ) (i d : ℕ) → i < length ids → get_or ids i d < above ids
below_above [] i d h = absurd (omega arith)
below_above (id ∷ ids) zero d h = omega arith
below_above (id ∷ ids) (suc i) d h = let r = below_above ids i d (omega arith) in omega arith

-- each of several numbers below a bound is below it
pub below_at : (n : ℕ) (ids : List ℕ) (i d : ℕ) → AllBelow n ids → i < length ids → get_or ids i d < n
below_at n [] i d h l = absurd (omega arith)
below_at n (id ∷ ids) zero d h l = h.0
below_at n (id ∷ ids) (suc i) d h l = below_at n ids i d h.1 (omega arith)
