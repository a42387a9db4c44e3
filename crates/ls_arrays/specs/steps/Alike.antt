-- Whether an array is in an atom, as a truth value.
use Rattle.std.specs.Prelude.{Bool}
use Rattle.ls_object.specs.Universe.{LispShape}
use Rattle.ls_tables.specs.Sets.{is_in}
use Rattle.ls_spec.specs.Truth.{is_array_with, matches_dimensions}
use Rattle.ls_arrays.specs.declared.atom.ArrayAtom.{ArrayAtom}

abbrev pub is_array_in : ArrayAtom → LispShape → Bool
is_array_in a shape = is_array_with (λ c. is_in a.codes.bits c) a.simple (matches_dimensions a.dims) shape
