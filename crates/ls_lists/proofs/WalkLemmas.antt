-- A walk without the bound of the recursion: it adds lists behind those seen, each once, and none before its cars and cdrs.
use Rattle.std.proofs.Common.{ℕ, zero, suc, ◌≡◌, ◌≤◌, ◌<◌, refl, sym, ◌∙◌, ap, subst, List, [], ◌∷◌, ◌++◌, append_assoc, append-nil, Bool, true, false, IsTrue, ◌||◌, if◌then◌else◌, arith, ◌⊎◌, inl, inr}
use Rattle.ls_spec.specs.Specifier.{Specifier}
use Rattle.ls_lists.specs.Sides.{cars_of, cdrs_of, height}
use Rattle.ls_lists.specs.Walks.{is_none, among, is_done, walk_within, walk}
use Rattle.ls_lists.proofs.FallLemmas.{cars_fall, cdrs_fall, height_some, height_none}
use Rattle.ls_lists.proofs.AmongLemmas.{among_append, among_one}

abbrev Lists : Type 0
Lists = List (List Specifier)

grow_by : (list : List Specifier) (seen s1 s2 xs ys : Lists) (b : Bool) → s1 ≡ seen ++ xs → s2 ≡ s1 ++ ys → (more : Lists) × ((if b then seen else s2 ++ list ∷ []) ≡ seen ++ more)
grow_by list seen s1 s2 xs ys true e f = ([], sym (append-nil seen))
grow_by list seen s1 s2 xs ys false e f = (xs ++ (ys ++ list ∷ []), ap (λ x. x ++ list ∷ []) (f ∙ ap (λ x. x ++ ys) e) ∙ append_assoc (seen ++ xs) ys (list ∷ []) ∙ append_assoc seen xs (ys ++ list ∷ []))

-- a walk adds at the end
pub walk_grows : (n : ℕ) (list : List Specifier) (seen : Lists) → (more : Lists) × (walk_within n list seen ≡ seen ++ more)
unfolding walk_within
walk_grows zero list seen = ([], sym (append-nil seen))
walk_grows (suc n) list seen =
    let one = walk_grows n (cars_of list) seen in
    let two = walk_grows n (cdrs_of list) (walk_within n (cars_of list) seen) in
    grow_by list seen _ _ one.0 two.0 (is_done list seen) one.1 two.1

-- one step of a walk
pub step_done : (n : ℕ) (list : List Specifier) (seen : Lists) → is_done list seen ≡ true → walk_within n list seen ≡ seen
unfolding walk_within
step_done zero list seen e = refl
step_done (suc n) list seen e = ap (λ b. if b then seen else (walk_within n (cdrs_of list) (walk_within n (cars_of list) seen) ++ list ∷ [])) e

pub step_new : (n : ℕ) (list : List Specifier) (seen : Lists) → is_done list seen ≡ false → walk_within (suc n) list seen ≡ walk_within n (cdrs_of list) (walk_within n (cars_of list) seen) ++ list ∷ []
unfolding walk_within
step_new n list seen e = ap (λ b. if b then seen else (walk_within n (cdrs_of list) (walk_within n (cars_of list) seen) ++ list ∷ [])) e

pub step_none : (list : List Specifier) (seen : Lists) → walk_within zero list seen ≡ seen
unfolding walk_within
step_none list seen = refl

pub some_of : (list : List Specifier) (seen : Lists) → is_done list seen ≡ false → is_none list ≡ false
some_of list seen e = grind arith

-- any bound on the height serves
same_by : (m n : ℕ) (list : List Specifier) (seen : Lists) (b : Bool) → is_done list seen ≡ b → walk_within m (cars_of list) seen ≡ walk_within n (cars_of list) seen → walk_within m (cdrs_of list) (walk_within n (cars_of list) seen) ≡ walk_within n (cdrs_of list) (walk_within n (cars_of list) seen) → walk_within (suc m) list seen ≡ walk_within (suc n) list seen
same_by m n list seen true e f g = step_done (suc m) list seen e ∙ sym (step_done (suc n) list seen e)
same_by m n list seen false e f g = step_new m list seen e ∙ ap (λ x. walk_within m (cdrs_of list) x ++ list ∷ []) f ∙ ap (λ x. x ++ list ∷ []) g ∙ sym (step_new n list seen e)

pub none_done : (list : List Specifier) (seen : Lists) → height list ≤ 0 → is_done list seen ≡ true
none_done list seen h = let e = height_none list h in grind arith

walk_same : (m n : ℕ) (list : List Specifier) (seen : Lists) → height list ≤ m → height list ≤ n → walk_within m list seen ≡ walk_within n list seen
walk_same zero n list seen h k = let e = none_done list seen h in step_done zero list seen e ∙ sym (step_done n list seen e)
walk_same (suc m) zero list seen h k = let e = none_done list seen k in step_done (suc m) list seen e ∙ sym (step_done zero list seen e)
walk_same (suc m) (suc n) list seen h k =
    same_by m n list seen (is_done list seen) refl
    (walk_same m n (cars_of list) seen (cars_fall list m h) (cars_fall list n k))
    (walk_same m n (cdrs_of list) (walk_within n (cars_of list) seen) (cdrs_fall list m h) (cdrs_fall list n k))

-- what a walk is
pub walk_done : (list : List Specifier) (seen : Lists) → is_done list seen ≡ true → walk list seen ≡ seen
unfolding walk
walk_done list seen e = step_done (height list) list seen e

new_at : (n : ℕ) (list : List Specifier) (seen : Lists) → is_done list seen ≡ false → 0 < n → height list ≤ n → walk_within n list seen ≡ walk (cdrs_of list) (walk (cars_of list) seen) ++ list ∷ []
unfolding walk
new_at zero list seen e h k = absurd (omega arith)
new_at (suc n) list seen e h k =
    let f = walk_same n (height (cars_of list)) (cars_of list) seen (cars_fall list n k) (omega arith) in
    let g = walk_same n (height (cdrs_of list)) (cdrs_of list) (walk_within (height (cars_of list)) (cars_of list) seen) (cdrs_fall list n k) (omega arith) in
    step_new n list seen e ∙ ap (λ x. walk_within n (cdrs_of list) x ++ list ∷ []) f ∙ ap (λ x. x ++ list ∷ []) g

pub walk_new : (list : List Specifier) (seen : Lists) → is_done list seen ≡ false → walk list seen ≡ walk (cdrs_of list) (walk (cars_of list) seen) ++ list ∷ []
unfolding walk
walk_new list seen e = new_at (height list) list seen e (height_some list (some_of list seen e)) (omega arith)

pub walk_adds : (list : List Specifier) (seen : Lists) → (more : Lists) × (walk list seen ≡ seen ++ more)
unfolding walk
walk_adds list seen = walk_grows (height list) list seen

-- the lists that a walk adds are no higher than where it began
low_by : (n : ℕ) (list : List Specifier) (seen : Lists) (other : List Specifier) (b : Bool) → is_done list seen ≡ b
    → (IsTrue (among other (walk_within n (cdrs_of list) (walk_within n (cars_of list) seen))) → (IsTrue (among other (walk_within n (cars_of list) seen))) ⊎ (height other ≤ n))
    → (IsTrue (among other (walk_within n (cars_of list) seen)) → (IsTrue (among other seen)) ⊎ (height other ≤ n))
    → height list ≤ suc n → IsTrue (among other (walk_within (suc n) list seen)) → (IsTrue (among other seen)) ⊎ (height other ≤ suc n)
low_by n list seen other true e f g k h = inl (subst (λ x. IsTrue (among other x)) (step_done (suc n) list seen e) h)
low_by n list seen other false e f g k h = by (among other (walk_within n (cdrs_of list) (walk_within n (cars_of list) seen))) refl
  where
    at : IsTrue (among other (walk_within n (cdrs_of list) (walk_within n (cars_of list) seen)) || among other (list ∷ []))
    at = subst IsTrue (among_append other _ (list ∷ [])) (subst (λ x. IsTrue (among other x)) (step_new n list seen e) h)

    up : (IsTrue (among other seen)) ⊎ (height other ≤ n) → (IsTrue (among other seen)) ⊎ (height other ≤ suc n)
    up (inl i) = inl i
    up (inr i) = inr (omega arith)

    mid : (IsTrue (among other (walk_within n (cars_of list) seen))) ⊎ (height other ≤ n) → (IsTrue (among other seen)) ⊎ (height other ≤ suc n)
    mid (inl i) = up (g i)
    mid (inr i) = inr (omega arith)

    by : (b : Bool) → among other (walk_within n (cdrs_of list) (walk_within n (cars_of list) seen)) ≡ b → (IsTrue (among other seen)) ⊎ (height other ≤ suc n)
    by true i = mid (f i)
    by false i = inr (let j = among_one other list (let l = at in grind arith) in subst (λ x. height x ≤ suc n) (sym j) k)

walk_low : (n : ℕ) (list : List Specifier) (seen : Lists) (other : List Specifier) → height list ≤ n → IsTrue (among other (walk_within n list seen)) → (IsTrue (among other seen)) ⊎ (height other ≤ n)
walk_low zero list seen other k h = inl (subst (λ x. IsTrue (among other x)) (step_none list seen) h)
walk_low (suc n) list seen other k h =
    low_by n list seen other (is_done list seen) refl
    (walk_low n (cdrs_of list) (walk_within n (cars_of list) seen) other (cdrs_fall list n k))
    (walk_low n (cars_of list) seen other (cars_fall list n k)) k h

fresh_at : (n : ℕ) (list : List Specifier) (seen : Lists) → 0 < n → height list ≡ n → among list seen ≡ false → among list (walk (cdrs_of list) (walk (cars_of list) seen)) ≡ false
unfolding walk
fresh_at zero list seen h k e = absurd (omega arith)
fresh_at (suc n) list seen h k e = by (among list (walk (cdrs_of list) (walk (cars_of list) seen))) refl
  where
    no : (IsTrue (among list seen)) ⊎ (height list ≤ height (cars_of list)) → ⊥
    no (inl i) = cc
    no (inr i) = let j = cars_fall list n (omega arith) in omega arith

    mid : (IsTrue (among list (walk (cars_of list) seen))) ⊎ (height list ≤ height (cdrs_of list)) → ⊥
    mid (inl i) = no (walk_low (height (cars_of list)) (cars_of list) seen list (omega arith) i)
    mid (inr i) = let j = cdrs_fall list n (omega arith) in omega arith

    by : (b : Bool) → among list (walk (cdrs_of list) (walk (cars_of list) seen)) ≡ b → among list (walk (cdrs_of list) (walk (cars_of list) seen)) ≡ false
    by true i = absurd (mid (walk_low (height (cdrs_of list)) (cdrs_of list) (walk (cars_of list) seen) list (omega arith) i))
    by false i = i

-- a list that isn't kept isn't made on the way to its parts
pub walk_fresh : (list : List Specifier) (seen : Lists) → is_done list seen ≡ false → among list (walk (cdrs_of list) (walk (cars_of list) seen)) ≡ false
walk_fresh list seen e = fresh_at (height list) list seen (height_some list (some_of list seen e)) refl (grind arith)
