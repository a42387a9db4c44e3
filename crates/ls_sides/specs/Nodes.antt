-- What one node of a table is made of, with numbers in place of its parts.
use Rattle.std.specs.Prelude.{ℕ, List, [], ◌∷◌, Option, Some, None}
use Rattle.ls_intern.specs.declared.node.Node.{Node}
use Rattle.ls_intern.specs.declared.node.Node.TheVariants as node

-- what T, NIL, AND, OR or NOT is made of, and nothing for an atom
abbrev pub node_branches : Node → Option (List ℕ)
node_branches node.All = Some []
node_branches node.Nothing = Some []
node_branches (node.And ids) = Some ids
node_branches (node.Or ids) = Some ids
node_branches (node.Not id) = Some (id ∷ [])
node_branches _ = None

-- the car and the cdr of a CONS
abbrev pub node_sides : Node → Option (ℕ × ℕ)
node_sides (node.ConsOf car cdr) = Some (car, cdr)
node_sides _ = None

-- the element specifier that an array names
abbrev pub node_element : Node → Option ℕ
node_element (node.ArrayOf e simple dims) = e
node_element _ = None
