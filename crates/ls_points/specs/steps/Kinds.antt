-- The opaque objects that stand for all opaque objects.
use Rattle.std.specs.Prelude.{Bool, not, List, [], ◌∷◌}
use Rattle.std.specs.List.{flat_map, list_all}
use Rattle.ls_object.specs.declared.kind.Kind.{Kind}
use Rattle.ls_object.specs.Universe.{node, opaque}
use Rattle.ls_spec.specs.declared.spec.Spec.{Spec}
use Rattle.ls_spec.specs.Meaning.{specifier}
use Rattle.ls_spec.specs.Specifier.{Specifier, kind_of}
use Rattle.ls_spec.specs.Truth.{holds, nothing_learnt}

-- the kind that an atom names
abbrev pub named_kind : Specifier → List Kind
named_kind (kind_of k) = k ∷ []
named_kind _ = []

-- the kinds that the atoms name, with repeats
abbrev pub named_kinds : List Spec → List Kind
named_kinds atoms = flat_map (λ a. named_kind (specifier a)) atoms

-- an opaque object of the kind is in none of the atoms
abbrev pub is_in_none : Kind → List Spec → Bool
is_in_none k atoms = list_all (λ a. not (holds nothing_learnt (specifier a) (node [] (opaque k)))) atoms
