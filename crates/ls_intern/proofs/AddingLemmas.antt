-- Specifiers that were added one after another.
use Rattle.std.proofs.Common.{ℕ, ◌≡◌, ◌<◌, ◌+◌, sym, ◌∙◌, ap, subst, List, [], ◌∷◌, ◌++◌, length, get_or, take}
use Rattle.std.proofs.lemmas.List.{take_more, map_push}
use Rattle.ls_spec.specs.Specifier.{Specifier}
use Rattle.ls_intern.specs.Places.{at, specifiers_at, AllBelow, Extends}
use Rattle.ls_intern.proofs.PlaceLemmas.{extends_both, all_below_grown, specifiers_grown}

-- the numbers stand for the list
pub record AreAdded (old new : List Specifier) (ids : List ℕ) (list : List Specifier) : Type 0 where
  pub grows : Extends old new
  pub within : AllBelow (length new) ids
  pub is : specifiers_at new ids ≡ list

below_push : (n : ℕ) (ids : List ℕ) (id : ℕ) → AllBelow n ids → id < n → AllBelow n (ids ++ id ∷ [])
below_push n [] id h k = (k, tt)
below_push n (i ∷ ids) id h k = (h.0, below_push n ids id h.1 k)

-- one more, behind the others
pub added_more : (old mid new : List Specifier) (ids news : List ℕ) (list : List Specifier) (i id : ℕ) (s : Specifier) → i < length list → s ≡ get_or list i s → AreAdded old mid ids (take i list) → Extends mid new → id < length new → at new id ≡ s → news ≡ ids ++ id ∷ [] → AreAdded old new news (take (i + 1) list)
added_more old mid new ids news list i id s l e a g w is n = subst (λ x. AreAdded old new x (take (i + 1) list)) (sym n) (record {
  grows = extends_both old mid new a.grows g;
  within = below_push (length new) ids id (all_below_grown mid new ids g a.within) w;
  is = map_push (at new) ids id ∙ ap (λ x. x ++ at new id ∷ []) (specifiers_grown mid new ids g a.within ∙ a.is) ∙ ap (λ x. take i list ++ x ∷ []) (is ∙ e) ∙ sym (take_more list i s l);
})
