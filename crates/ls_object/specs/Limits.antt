-- The limits of the rationals that the program holds. Those of the universe have none.
use Rattle.std.specs.Prelude.{ℕ, ◌^◌}

-- the absolute value of a numerator is below this
abbrev pub numerator_limit : ℕ
numerator_limit = 2 ^ 66

-- no denominator is greater
abbrev pub greatest_denominator : ℕ
greatest_denominator = 2 ^ 61
