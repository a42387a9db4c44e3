-- A stack is its items in reverse.
use Rattle.std.proofs.Common.{◌≡◌, ℕ, ◌+◌, ◌-◌, ◌<◌, get_or, List, ◌∷◌, length, drop, reverse, sym, ap, ◌∙◌, arith}
use Rattle.std.proofs.lemmas.List.{drop_more, get_or-reverse, length-reverse}

-- the item below the top by so many, and the items under it
pub item_below : {T : Type 0} (xs : List T) (k : ℕ) (x : T) → k < length xs → x ≡ get_or xs (length xs - 1 - k) x → drop k (reverse xs) ≡ x ∷ drop (k + 1) (reverse xs)
item_below xs k x lt at =
    drop_more (reverse xs) k x (omega (arith, lt, length-reverse xs)) ∙ ap (λ y. y ∷ drop (k + 1) (reverse xs)) (get_or-reverse xs k x lt ∙ sym at)
