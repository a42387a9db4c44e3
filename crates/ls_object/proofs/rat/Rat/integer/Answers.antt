use Rattle.std.proofs.Math.Nat.{one-dvd}
use Rattle.ls_object.proofs.rat.Rat.integer.Goals as goal

-- an integer and 1 have no common divisor but 1
pub invariant_of-result-clause-lowest : goal.invariant_of-result-clause-lowest
invariant_of-result-clause-lowest c = (one-dvd _, one-dvd 1, λ d divides_value divides_one. divides_one)
