-- What is kept for lists of numbers.
use Rattle.std.specs.Prelude.{ℕ, List, [], ◌∷◌, map, nat_eq, Option, None, Some, if◌then◌else◌}
use Rattle.std.specs.Cmp.Lexicographic.{pointwise}

-- the value of the first entry with that key
abbrev pub kept_for : {V : Type 0} → List ℕ → List (List ℕ × V) → Option V
kept_for key [] = None
kept_for key (e ∷ entries) = if pointwise nat_eq key e.0 then Some e.1 else kept_for key entries

-- the entries, each key as the list that it stands for
abbrev pub with_lists : {K V : Type 0} → (K → List ℕ) → List (K × V) → List (List ℕ × V)
with_lists list entries = map (λ e. (list e.0, e.1)) entries
