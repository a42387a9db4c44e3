-- What one node of a table says, with numbers in place of its parts.
use Rattle.std.specs.Prelude.{ℕ, Bool, true, false, List, [], ◌∷◌, Option, Some, None, length, slice_get}
use Rattle.ls_spec.specs.declared.spec.DimPattern.{DimPattern}
use Rattle.ls_spec.specs.declared.spec.DimPattern.TheVariants as dimensions
use Rattle.ls_intern.specs.declared.node.Node.{Node}
use Rattle.ls_intern.specs.declared.node.Node.TheVariants as node

abbrev pub node_is_predicate : Node → Bool
node_is_predicate (node.Satisfies p) = true
node_is_predicate _ = false

abbrev pub node_is_string : Node → Bool
node_is_string (node.StringOf simple dim) = true
node_is_string _ = false

-- what an atom counts for among the candidates, other than arrays
abbrev pub node_weight : Node → ℕ
node_weight (node.Range k lo hi) = 6
node_weight (node.Eql p) = 3
node_weight (node.StructIs name) = 1
node_weight node.StructAny = 1
node_weight (node.Kind k) = 1
node_weight _ = 0

-- what an array asks of the dimensions, if it names a rank
abbrev pub dims_pattern : DimPattern → Option (List (Option ℕ))
dims_pattern dimensions.Any = None
dims_pattern (dimensions.Places places) = Some places

abbrev pub node_pattern : Node → Option (List (Option ℕ))
node_pattern (node.ArrayOf e simple dims) = dims_pattern dims
node_pattern (node.StringOf simple dim) = Some (dim ∷ [])
node_pattern _ = None

-- how many places there are in it
abbrev pub pattern_rank : Option (List (Option ℕ)) → Option ℕ
pattern_rank None = None
pattern_rank (Some places) = Some (length places)

-- the number at a place
abbrev pub place_number : Option (Option ℕ) → Option ℕ
place_number None = None
place_number (Some number) = number

abbrev pub pattern_number : ℕ → Option (List (Option ℕ)) → Option ℕ
pattern_number place None = None
pattern_number place (Some places) = place_number (slice_get places place)
