-- The structures that stand for all structures of a file.
use Rattle.std.specs.Prelude.{◌≡◌, ℕ, Bool, ◌||◌, nat_eq, List, [], ◌∷◌, Option, None, Vec}
use Rattle.std.specs.List.{AllByRecursion, Contains, flat_map, list_any}
use Rattle.std.specs.Cmp.Lexicographic.{pointwise}
use Rattle.ls_object.specs.declared.symbol.Symbol.{Symbol}
use Rattle.ls_object.specs.Universe.{Structures}
use Rattle.ls_spec.specs.declared.spec.Spec.{Spec}
use Rattle.ls_spec.specs.Keys.{symbol_key}
use Rattle.ls_spec.specs.Meaning.{specifier}
use Rattle.ls_spec.specs.Specifier.{Specifier, structure_under}
use Rattle.ls_points.specs.steps.Some.{SomeOf}

-- the structure name of an atom
abbrev pub named_structure : Specifier → List Symbol
named_structure (structure_under y) = y ∷ []
named_structure _ = []

-- the structure names of the atoms, with repeats
abbrev pub named_structures : List Spec → List Symbol
named_structures atoms = flat_map (λ a. named_structure (specifier a)) atoms

-- the name is one of these
abbrev pub IsOneOf : Symbol → List Symbol → Type 0
IsOneOf x names = SomeOf (λ y. y ≡ x) names

-- the structure type includes none and is none of these
abbrev pub IsNewRoot : List Symbol → Symbol × Option Symbol → Type 0
IsNewRoot names p = (p.1 ≡ None) × (IsOneOf p.0 names → ⊥)

-- if the structure type includes none, it is one of these
abbrev pub IsRootNamed : List Symbol → Symbol × Option Symbol → Type 0
IsRootNamed names p = p.1 ≡ None → IsOneOf p.0 names

-- x includes none and is none of these
abbrev pub IsUnnamedRoot : Structures → List Symbol → Symbol → Type 0
IsUnnamedRoot structures names x = Contains structures (x, None) × (IsOneOf x names → ⊥)

-- each that includes none is one of these
abbrev pub AreRootsNamed : Structures → List Symbol → Type 0
AreRootsNamed structures names = AllByRecursion (IsRootNamed names) structures

-- whether the key is one of those of a set
abbrev pub has_key : {Y : Type 0} → List (Vec ℕ Y) → List ℕ → Bool
has_key keys k = list_any (λ x. pointwise nat_eq k x.items) keys

-- whether the key is that of one of the names
abbrev pub is_key_of : List Symbol → List ℕ → Bool
is_key_of names k = list_any (λ y. pointwise nat_eq k (symbol_key y)) names

-- the keys are those of the names, and those that were there
abbrev pub AddsKeys : {Y : Type 0} → List Symbol → List (Vec ℕ Y) → List (Vec ℕ Y) → Type 0
AddsKeys names old new = (k : List ℕ) → has_key new k ≡ (has_key old k || is_key_of names k)
