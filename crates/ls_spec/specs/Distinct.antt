-- The distinct specifiers of a list, in order of first occurrence.
use Rattle.std.specs.Prelude.{Bool, if◌then◌else◌, nat_eq, List, [], ◌∷◌, ◌++◌, fold}
use Rattle.std.specs.List.{list_any, Contains}
use Rattle.std.specs.Cmp.Lexicographic.{pointwise}
use Rattle.ls_spec.specs.Specifier.{Specifier}
use Rattle.ls_spec.specs.Keys.{key}

-- whether the two are one specifier, which is whether they have one key
abbrev pub same : Specifier → Specifier → Bool
same s t = pointwise nat_eq (key s) (key t)

-- the list with the specifier behind it, if it isn't there
abbrev pub with_new : List Specifier → Specifier → List Specifier
with_new found s = if list_any (same s) found then found else found ++ s ∷ []

-- each specifier of the list once, in order of first occurrence
abbrev pub distinct : List Specifier → List Specifier
distinct list = fold with_new [] list

-- The last list has the elements of the second one that are not in the first one, each once, in order of first
-- occurrence. No test of equality is asked for.
pub data AreDistinctPast {A : Type 0} : List A → List A → List A → Type 0 where
  at_end : {seen : List A} → AreDistinctPast seen [] []
  again : {seen list rest : List A} {x : A}
      → Contains seen x → AreDistinctPast seen list rest → AreDistinctPast seen (x ∷ list) rest
  first : {seen list rest : List A} {x : A}
      → (Contains seen x → ⊥) → AreDistinctPast (x ∷ seen) list rest → AreDistinctPast seen (x ∷ list) (x ∷ rest)

-- these are the distinct elements of the list, in order of first occurrence
abbrev pub AreDistinctOf : {A : Type 0} → List A → List A → Type 0
AreDistinctOf list found = AreDistinctPast [] list found
