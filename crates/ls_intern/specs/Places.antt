-- What the numbers and the nodes of a table stand for. A table is seen as the list of its specifiers.
use Rattle.std.specs.Prelude.{ℕ, ◌≡◌, ◌<◌, List, [], ◌∷◌, ◌++◌, map, length, get_or, Some, None}
use Rattle.ls_spec.specs.Specifier.{Specifier, all_objects, no_objects, and_of, or_of, not_of, eql_to, range_of, chars_of, symbols_of, kind_of, structure_under, any_structure, array_any, array_of, string_of, cons_of, satisfies}
use Rattle.ls_spec.specs.Meaning.{specifiers_of}
use Rattle.ls_intern.specs.declared.node.Node.{Node}
use Rattle.ls_intern.specs.declared.node.Node.TheVariants as node

-- the specifier at a place
abbrev pub at : List Specifier → ℕ → Specifier
at known id = get_or known id no_objects

-- the specifiers at several places
abbrev pub specifiers_at : List Specifier → List ℕ → List Specifier
specifiers_at known ids = map (at known) ids

-- the specifier of a node: its level, with the specifiers at its numbers as parts
abbrev pub node_specifier : List Specifier → Node → Specifier
node_specifier known node.All = all_objects
node_specifier known node.Nothing = no_objects
node_specifier known (node.And ids) = and_of (specifiers_of (specifiers_at known ids))
node_specifier known (node.Or ids) = or_of (specifiers_of (specifiers_at known ids))
node_specifier known (node.Not id) = not_of (at known id)
node_specifier known (node.Eql p) = eql_to p
node_specifier known (node.Range k lo hi) = range_of k lo hi
node_specifier known (node.Chars k) = chars_of k
node_specifier known (node.Symbols k) = symbols_of k
node_specifier known (node.Kind k) = kind_of k
node_specifier known (node.StructIs name) = structure_under name
node_specifier known node.StructAny = any_structure
node_specifier known (node.ArrayOf None simple dims) = array_any simple dims
node_specifier known (node.ArrayOf (Some e) simple dims) = array_of (at known e) simple dims
node_specifier known (node.StringOf simple dim) = string_of simple dim
node_specifier known (node.ConsOf car cdr) = cons_of (at known car) (at known cdr)
node_specifier known (node.Satisfies p) = satisfies p

-- each of the numbers is below n
abbrev pub AllBelow : ℕ → List ℕ → Type 0
AllBelow n [] = Unit {0}
AllBelow n (id ∷ ids) = (id < n) × AllBelow n ids

-- each number of the node is below n
abbrev pub PartsBelow : ℕ → Node → Type 0
PartsBelow n node.All = Unit {0}
PartsBelow n node.Nothing = Unit {0}
PartsBelow n (node.And ids) = AllBelow n ids
PartsBelow n (node.Or ids) = AllBelow n ids
PartsBelow n (node.Not id) = id < n
PartsBelow n (node.Eql p) = Unit {0}
PartsBelow n (node.Range k lo hi) = Unit {0}
PartsBelow n (node.Chars k) = Unit {0}
PartsBelow n (node.Symbols k) = Unit {0}
PartsBelow n (node.Kind k) = Unit {0}
PartsBelow n (node.StructIs name) = Unit {0}
PartsBelow n node.StructAny = Unit {0}
PartsBelow n (node.ArrayOf None simple dims) = Unit {0}
PartsBelow n (node.ArrayOf (Some e) simple dims) = e < n
PartsBelow n (node.StringOf simple dim) = Unit {0}
PartsBelow n (node.ConsOf car cdr) = (car < n) × (cdr < n)
PartsBelow n (node.Satisfies p) = Unit {0}

-- equal specifiers stand at one place
abbrev pub Distinct : List Specifier → Type 0
Distinct known = (i j : ℕ) → i < length known → j < length known → at known i ≡ at known j → i ≡ j

-- what stood in the old list stands at its places in the new one
pub record Extends (old new : List Specifier) : Type 0 where
  pub more : List Specifier
  pub is : new ≡ old ++ more
