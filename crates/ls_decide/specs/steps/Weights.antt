-- The candidates for a list of atoms, atom by atom.
use Rattle.std.specs.Prelude.{ℕ}
use Rattle.ls_spec.specs.Specifier.{Specifier, eql_to, range_of, kind_of, structure_under, any_structure}

-- what an atom counts for, other than an array
abbrev pub weight : Specifier → ℕ
weight (range_of k lo hi) = 6
weight (eql_to p) = 3
weight (structure_under name) = 1
weight any_structure = 1
weight (kind_of k) = 1
weight _ = 0
