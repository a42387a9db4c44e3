-- A key of a node: a list of numbers that no other node has.
use Rattle.std.specs.Prelude.{ℕ, List, [], ◌∷◌, Some, None}
use Rattle.ls_spec.specs.Specifier.{all_objects, no_objects, eql_to, range_of, chars_of, symbols_of, kind_of, structure_under, any_structure, array_any, string_of, satisfies}
use Rattle.ls_spec.specs.Keys.{key}
use Rattle.ls_intern.specs.declared.node.Node.{Node}
use Rattle.ls_intern.specs.declared.node.Node.TheVariants as node

-- a node without parts has the key of its specifier, any other a number of its variant, and those of its parts
abbrev pub node_key : Node → List ℕ
node_key node.All = key all_objects
node_key node.Nothing = key no_objects
node_key (node.And ids) = 2 ∷ ids
node_key (node.Or ids) = 3 ∷ ids
node_key (node.Not id) = 4 ∷ id ∷ []
node_key (node.Eql p) = key (eql_to p)
node_key (node.Range k lo hi) = key (range_of k lo hi)
node_key (node.Chars k) = key (chars_of k)
node_key (node.Symbols k) = key (symbols_of k)
node_key (node.Kind k) = key (kind_of k)
node_key (node.StructIs name) = key (structure_under name)
node_key node.StructAny = key any_structure
node_key (node.ArrayOf None simple dims) = key (array_any simple dims)
node_key (node.ArrayOf (Some e) simple dims) = 13 ∷ e ∷ key (array_any simple dims)
node_key (node.StringOf simple dim) = key (string_of simple dim)
node_key (node.ConsOf car cdr) = 15 ∷ car ∷ cdr ∷ []
node_key (node.Satisfies p) = key (satisfies p)
