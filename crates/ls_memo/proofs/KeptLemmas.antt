-- What is kept for a list is what the map has for the vector of its numbers.
use Rattle.std.proofs.Common.{ℕ, ◌≡◌, refl, ap, List, [], ◌∷◌, ◌++◌, Some}
use Rattle.std.specs.Prelude.{nat_eq, if◌then◌else◌}
use Rattle.std.specs.Cmp.Lexicographic.{pointwise}
use Rattle.std.specs.Map.{lookup}
use Rattle.ls_memo.specs.Kept.{kept_for, with_lists}

module _ {K V : Type 0} (list : K → List ℕ) where
  -- looking up a key is looking up its list
  pub kept_from_lookup : (key : List ℕ) (entries : List (K × V)) → lookup (λ k. pointwise nat_eq key (list k)) entries ≡ kept_for key (with_lists list entries)
  kept_from_lookup key [] = refl
  kept_from_lookup key (e ∷ entries) = ap (λ r. if pointwise nat_eq key (list e.0) then Some e.1 else r) (kept_from_lookup key entries)

  -- an entry behind the others
  pub with_lists_push : (entries : List (K × V)) (k : K) (v : V) → with_lists list (entries ++ (k, v) ∷ []) ≡ with_lists list entries ++ (list k, v) ∷ []
  with_lists_push [] k v = refl
  with_lists_push (e ∷ entries) k v = ap (λ l. (list e.0, e.1) ∷ l) (with_lists_push entries k v)
