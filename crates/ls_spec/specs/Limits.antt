-- How large the numbers of a specifier may be, and how deep it may go.
use Rattle.std.specs.Prelude.{ℕ, ◌^◌}

-- no numerator and no integer has a greater absolute value
abbrev pub largest_numerator : ℕ
largest_numerator = 2 ^ 64

-- no denominator is greater
abbrev pub largest_denominator : ℕ
largest_denominator = 2 ^ 60

-- no array that is asked for has more dimensions
abbrev pub largest_rank : ℕ
largest_rank = 255

-- each dimension that is asked for is below this
abbrev pub dimension_limit : ℕ
dimension_limit = 2 ^ 62

-- no specifier is deeper
abbrev pub largest_depth : ℕ
largest_depth = 1024
