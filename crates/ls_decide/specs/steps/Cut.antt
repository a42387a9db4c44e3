-- Numbers cut at 2^31: a greater one counts as 2^31.
use Rattle.std.specs.Prelude.{ℕ, min, ◌^◌}

abbrev pub cut : ℕ → ℕ
cut n = min n (2 ^ 31)
