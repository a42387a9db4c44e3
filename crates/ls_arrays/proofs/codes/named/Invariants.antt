use Rattle.std.proofs.Common.{ℕ, ◌≡◌, ◌||◌, drop}
use Rattle.ls_tables.specs.Sets.{is_in}
use Rattle.ls_arrays.specs.Arrays.{is_named}
use Rattle.ls_arrays.proofs.codes.named.Given as goal

abbrev pub invariant-loop-atom : goal.invariant-loop-atom
invariant-loop-atom l = (k : ℕ) → (is_in l.found.bits k || is_named (drop l.atom-index l.atoms) k) ≡ is_named l.atoms k
