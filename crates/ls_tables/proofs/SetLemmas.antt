-- A set is determined by its members.
use Rattle.std.proofs.Common.{ℕ, ◌≡◌, ◌<◌, ◌≤◌, ◌^◌, subst}
use Rattle.std.proofs.Math.Bridge.{le_prop}
use Rattle.ls_tables.specs.declared.tags.TagSet.{TagSet}
use Rattle.ls_tables.specs.Sets.{HaveSameMembers}
use Rattle.ls_tables.proofs.BitLemmas.{same_members}

-- a set is determined by its bits
by_bits : (n : ℕ) (s : TagSet n) (bits : ℕ) → s.bits ≡ bits → (size : n ≤ 64) (below : bits < 2 ^ n) → s ≡ record { bits = bits; size = size; below = below }
by_bits n s bits e = subst (λ (y : ℕ). (size : n ≤ 64) (below : y < 2 ^ n) → s ≡ record { bits = y; size = size; below = below }) e (λ size below i. record { bits = s.bits; size = le_prop s.size size i; below = le_prop s.below below i })

-- so by its members
pub one_set : (n : ℕ) (a b : TagSet n) → HaveSameMembers n a.bits b.bits → a ≡ b
one_set n a b e = by_bits n a b.bits (same_members n a.bits b.bits a.below b.below e) b.size b.below
