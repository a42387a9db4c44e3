-- A specifier is among those found exactly where its key was seen.
use Rattle.std.proofs.Common.{ℕ, ◌≡◌, ap, refl, sym, ◌∙◌, Bool, true, false, if◌then◌else◌, nat_eq, List, [], ◌∷◌, ◌++◌, Vec}
use Rattle.std.specs.List.{list_any}
use Rattle.std.specs.Cmp.Lexicographic.{pointwise}
use Rattle.ls_spec.specs.Specifier.{Specifier}
use Rattle.ls_spec.specs.Keys.{key}
use Rattle.ls_spec.specs.Distinct.{same, with_new}
use Rattle.ls_spec.specs.steps.Finding.{AreKeysOf}

-- a key is seen where its specifier was found
pub seen_where_found : {Y : Type 0} (seen : List (Vec ℕ Y)) (found : List Specifier) (k : Vec ℕ Y) (s : Specifier)
    → AreKeysOf seen found → k.items ≡ key s
    → list_any (λ x. pointwise nat_eq k.items x.items) seen ≡ list_any (same s) found
seen_where_found [] [] k s h e = refl
seen_where_found [] (t ∷ ts) k s h e = cc
seen_where_found (x ∷ xs) [] k s h e = cc
seen_where_found (x ∷ xs) (t ∷ ts) k s h e =
    let f : x.items ≡ key t = cc in
    let g : AreKeysOf xs ts = cc in
    let rest = seen_where_found xs ts k s g e in
    rw (e, f, rest) refl

-- adding a specifier of which no key was seen
pub with_new-added : (found : List Specifier) (s : Specifier) (b : Bool) → b ≡ list_any (same s) found → b ≡ false → found ++ s ∷ [] ≡ with_new found s
with_new-added found s b e f = ap (λ c. if c then found else found ++ s ∷ []) (sym f ∙ e)

-- and one of which the key was
pub with_new-kept : (found : List Specifier) (s : Specifier) (b : Bool) → b ≡ list_any (same s) found → b ≡ true → found ≡ with_new found s
with_new-kept found s b e f = ap (λ c. if c then found else found ++ s ∷ []) (sym f ∙ e)
