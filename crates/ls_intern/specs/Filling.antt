-- How a table is filled: node by node, each behind its parts.
use Rattle.std.specs.Prelude.{ℕ, suc, ◌≡◌, List, [], ◌∷◌, ◌++◌, map, Vec}
use Rattle.ls_spec.specs.Specifier.{Specifier}
use Rattle.ls_intern.specs.declared.node.Node.{Node}
use Rattle.ls_intern.specs.Places.{node_specifier, PartsBelow, Distinct}
use Rattle.ls_intern.specs.NodeKeys.{node_key}

-- the known specifiers, with those of the nodes behind them
abbrev pub filled : List Specifier → List Node → List Specifier
filled known [] = known
filled known (node ∷ nodes) = filled (known ++ node_specifier known node ∷ []) nodes

-- the specifier of each node
abbrev pub specifiers_of_nodes : List Node → List Specifier
specifiers_of_nodes nodes = filled [] nodes

-- parts stand before what they are parts of; the first node is at the place n
abbrev pub Ordered : ℕ → List Node → Type 0
Ordered n [] = Unit {0}
Ordered n (node ∷ nodes) = PartsBelow n node × Ordered (suc n) nodes

-- the nodes and keys of a table
pub record AreNodes {Y : Type 0} (keys : List (Vec ℕ Y)) (nodes : List Node) : Type 0 where
  pub keyed : map (λ k. k.items) keys ≡ map node_key nodes
  pub ordered : Ordered 0 nodes
  pub distinct : Distinct (specifiers_of_nodes nodes)
