-- An integer as a rational.
use Rattle.std.specs.Prelude.{ℤ, ◌<◌, unsigned_abs}
use Rattle.std.proofs.Math.Dec.{lit<, lit≤}
use Rattle.std.proofs.Math.Nat.{one-dvd}
use Rattle.ls_object.specs.declared.rat.Rat.{Rat}
use Rattle.ls_object.specs.Limits.{numerator_limit}

-- the rational z/1
abbrev pub integer : (z : ℤ) → unsigned_abs z < numerator_limit → Rat
integer z fits = record {
  num = z;
  den = 1;
  positive = lit< tt;
  lowest = (one-dvd _, one-dvd 1, λ d divides_z divides_one. divides_one);
  num_fits = fits;
  den_fits = lit≤ tt;
}
