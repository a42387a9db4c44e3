-- Facts that hold of each element of a list.
use Rattle.std.proofs.Common.{ℕ, zero, suc, ◌≡◌, ◌<◌, ◌≤◌, ◌+◌, sym, subst, List, [], ◌∷◌, ◌++◌, length, get_or, take, take_all, arith}
use Rattle.std.specs.List.{AllByRecursion, Contains}
use Rattle.std.proofs.lemmas.List.{take_more}

pub AllByRecursion-append : {X : Type 0} (P : X → Type 0) (xs ys : List X) → AllByRecursion P xs → AllByRecursion P ys → AllByRecursion P (xs ++ ys)
AllByRecursion-append P [] ys h k = k
AllByRecursion-append P (x ∷ xs) ys h k = (h.0, AllByRecursion-append P xs ys h.1 k)

pub AllByRecursion-push : {X : Type 0} (P : X → Type 0) (xs : List X) (x : X) → AllByRecursion P xs → P x → AllByRecursion P (xs ++ x ∷ [])
AllByRecursion-push P xs x h k = AllByRecursion-append P xs (x ∷ []) h (k, tt)

pub AllByRecursion-weaker : {X : Type 0} (P Q : X → Type 0) → ((x : X) → P x → Q x) → (xs : List X) → AllByRecursion P xs → AllByRecursion Q xs
AllByRecursion-weaker P Q f [] h = tt
AllByRecursion-weaker P Q f (x ∷ xs) h = (f x h.0, AllByRecursion-weaker P Q f xs h.1)

-- what holds of each element holds of the one at a place
pub AllByRecursion-at : {X : Type 0} (P : X → Type 0) (xs : List X) (x : X) (k : ℕ) → AllByRecursion P xs → k < length xs → get_or xs k x ≡ x → P x
AllByRecursion-at P [] x k h l e = absurd (omega arith)
AllByRecursion-at P (y ∷ ys) x zero h l e = subst P e h.0
AllByRecursion-at P (y ∷ ys) x (suc k) h l e = AllByRecursion-at P ys x k h.1 (omega arith) e

-- what holds of each element holds of one that the list contains
pub AllByRecursion-contains : {X : Type 0} (P : X → Type 0) (xs : List X) (x : X) → AllByRecursion P xs → Contains xs x → P x
AllByRecursion-contains P xs x h c = AllByRecursion-at P xs x c.0 h c.1 c.2

-- one more element of a list that is gone through
pub AllByRecursion-more : {X : Type 0} (P : X → Type 0) (xs : List X) (i : ℕ) (x : X) → i < length xs → x ≡ get_or xs i x → AllByRecursion P (take i xs) → P x → AllByRecursion P (take (i + 1) xs)
AllByRecursion-more P xs i x l e h k = subst (AllByRecursion P) (sym (take_more xs i x l)) (AllByRecursion-push P (take i xs) (get_or xs i x) h (subst P e k))

-- the whole of a list that was gone through
pub AllByRecursion-whole : {X : Type 0} (P : X → Type 0) (xs : List X) (i : ℕ) → length xs ≤ i → AllByRecursion P (take i xs) → AllByRecursion P xs
AllByRecursion-whole P xs i l h = subst (AllByRecursion P) (take_all i xs l) h
