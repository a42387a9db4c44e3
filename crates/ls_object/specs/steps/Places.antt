-- Places in a list of structure types, and its index of names.
use Rattle.std.specs.Prelude.{ℕ, ◌≡◌, ◌<◌, List, map, Option, Some, None, slice_get}
use Rattle.std.specs.List.{Contains}
use Rattle.ls_object.specs.declared.symbol.Symbol.{Symbol}
use Rattle.ls_object.specs.Universe.{Structures}
use Rattle.ls_object.specs.Inclusion.{IsInclusionOrder}

-- the names of the structure types
abbrev pub names_of : Structures → List Symbol
names_of structures = map (λ p. p.0) structures

-- an index of a list in the order of inclusion: the names are those of the list, each at its place
pub record IsIndexed (names : List Symbol) (structures : Structures) : Type 0 where
  pub order : IsInclusionOrder structures
  pub same : names ≡ names_of structures

-- the structure type at the place has the name
abbrev pub IsAt : Structures → ℕ → Symbol → Type 0
IsAt structures at x = (include : Option Symbol) × (slice_get structures at ≡ Some (x, include))

-- the structure type of the name includes none
abbrev pub IsRoot : Structures → Symbol → Type 0
IsRoot structures x = Contains structures (x, None)

-- that of the name, at the place, includes the one at the place up before it
pub record IsBelow (structures : Structures) (at : ℕ) (x : Symbol) (up : ℕ) : Type 0 where
  pub included : Symbol
  pub includes : Contains structures (x, Some included)
  pub above : IsAt structures up included
  pub earlier : up < at
