-- A walk from kept lists adds exactly those that are missing, and each of them once.
use Rattle.std.proofs.Common.{ℕ, zero, suc, ◌≡◌, ◌≤◌, ◌+◌, refl, sym, ◌∙◌, ap, subst, List, [], ◌∷◌, ◌++◌, append_assoc, append-nil, Bool, true, false, not, IsTrue, ◌||◌, if◌then◌else◌, arith}
use Rattle.std.specs.Cmp.Lexicographic.{pointwise}
use Rattle.std.proofs.lemmas.List.Sums.{sum_by-append}
use Rattle.ls_spec.specs.Specifier.{Specifier}
use Rattle.ls_spec.specs.Distinct.{same}
use Rattle.ls_lists.specs.Sides.{cars_of, cdrs_of, height}
use Rattle.ls_lists.specs.Walks.{part, is_none, among, is_done, walk_within, walk, reached, total, missing, IsClosed}
use Rattle.ls_lists.proofs.FallLemmas.{cars_fall, cdrs_fall}
use Rattle.ls_lists.proofs.AmongLemmas.{same_list_is, among_itself, among_append, among_one, done_more}
use Rattle.ls_lists.proofs.WalkLemmas.{step_done, step_new, step_none, some_of, none_done, walk_grows}

abbrev Lists : Type 0
Lists = List (List Specifier)

-- a list beside its parts
pub closed_more : (list : List Specifier) (at : Lists) → IsClosed at → IsTrue (is_done (cars_of list) at) → IsTrue (is_done (cdrs_of list) at) → IsClosed (at ++ list ∷ [])
closed_more list at c f g other h = by (among other at) refl (subst IsTrue (among_append other at (list ∷ [])) h)
  where
    here : other ≡ list → IsTrue (is_done (cars_of other) (at ++ list ∷ [])) × IsTrue (is_done (cdrs_of other) (at ++ list ∷ []))
    here i = subst (λ x. IsTrue (is_done (cars_of x) (at ++ list ∷ [])) × IsTrue (is_done (cdrs_of x) (at ++ list ∷ []))) (sym i) (done_more (cars_of list) at (list ∷ []) f, done_more (cdrs_of list) at (list ∷ []) g)

    by : (b : Bool) → among other at ≡ b → IsTrue (among other at || among other (list ∷ [])) → IsTrue (is_done (cars_of other) (at ++ list ∷ [])) × IsTrue (is_done (cdrs_of other) (at ++ list ∷ []))
    by true i k = let o = c other i in (done_more (cars_of other) at (list ∷ []) o.0, done_more (cdrs_of other) at (list ∷ []) o.1)
    by false i k = here (among_one other list (grind arith))

pub done_last : (list : List Specifier) (at : Lists) → IsTrue (is_done list (at ++ list ∷ []))
done_last list at = let i = among_append list at (list ∷ []) in let j = among_itself list [] in grind arith

-- a walk keeps closed what is closed, and the list is done after it
closed_by : (n : ℕ) (list : List Specifier) (seen : Lists) (b : Bool) → is_done list seen ≡ b
    → (IsClosed (walk_within n (cars_of list) seen)) × IsTrue (is_done (cars_of list) (walk_within n (cars_of list) seen))
    → (IsClosed (walk_within n (cdrs_of list) (walk_within n (cars_of list) seen))) × IsTrue (is_done (cdrs_of list) (walk_within n (cdrs_of list) (walk_within n (cars_of list) seen)))
    → IsClosed seen → (IsClosed (walk_within (suc n) list seen)) × IsTrue (is_done list (walk_within (suc n) list seen))
closed_by n list seen true e f g c = subst (λ x. (IsClosed x) × IsTrue (is_done list x)) (sym (step_done (suc n) list seen e)) (c, e)
closed_by n list seen false e f g c =
    let m = walk_grows n (cdrs_of list) (walk_within n (cars_of list) seen) in
    let car = subst (λ x. IsTrue (is_done (cars_of list) x)) (sym m.1) (done_more (cars_of list) _ m.0 f.1) in
    subst (λ x. (IsClosed x) × IsTrue (is_done list x)) (sym (step_new n list seen e)) (closed_more list _ g.0 car g.1, done_last list _)

closed_to : (n : ℕ) (list : List Specifier) (seen : Lists) → height list ≤ n → IsClosed seen → (IsClosed (walk_within n list seen)) × IsTrue (is_done list (walk_within n list seen))
closed_to zero list seen k c = subst (λ x. (IsClosed x) × IsTrue (is_done list x)) (sym (step_none list seen)) (c, none_done list seen k)
closed_to (suc n) list seen k c =
    let f = closed_to n (cars_of list) seen (cars_fall list n k) c in
    let g = closed_to n (cdrs_of list) (walk_within n (cars_of list) seen) (cdrs_fall list n k) f.0 in
    closed_by n list seen (is_done list seen) refl f g c

pub walk_closed : (list : List Specifier) (seen : Lists) → IsClosed seen → (IsClosed (walk list seen)) × IsTrue (is_done list (walk list seen))
unfolding walk
walk_closed list seen c = closed_to (height list) list seen (omega arith) c

-- those that are missing
missing_append : (kept xs ys : Lists) → missing kept (xs ++ ys) ≡ missing kept xs ++ missing kept ys
missing_append kept [] ys = refl
missing_append kept (x ∷ xs) ys = by (not (among x kept)) (missing_append kept xs ys)
  where
    by : (b : Bool) → missing kept (xs ++ ys) ≡ missing kept xs ++ missing kept ys → (if b then x ∷ missing kept (xs ++ ys) else missing kept (xs ++ ys)) ≡ (if b then x ∷ missing kept xs else missing kept xs) ++ missing kept ys
    by true e = ap (λ l. x ∷ l) e
    by false e = e

among_cons : (other list : List Specifier) (xs : Lists) → among other (list ∷ xs) ≡ (pointwise same other list || among other xs)
unfolding among
among_cons other list xs = refl

-- a list that isn't kept is among those missing exactly where it is among all
among_missing : (kept xs : Lists) (other : List Specifier) → among other kept ≡ false → among other (missing kept xs) ≡ among other xs
among_missing kept [] other e = refl
among_missing kept (x ∷ xs) other e = by (among x kept) refl (pointwise same other x) refl (among_missing kept xs other e)
  where
    never : among x kept ≡ true → pointwise same other x ≡ true → ⊥
    never i j = let k = same_list_is other x j in let l = ap (λ y. among y kept) k in cc

    by : (b : Bool) → among x kept ≡ b → (c : Bool) → pointwise same other x ≡ c → among other (missing kept xs) ≡ among other xs → among other (if not (among x kept) then x ∷ missing kept xs else missing kept xs) ≡ among other (x ∷ xs)
    by true i true j f = absurd (never i j)
    by true i false j f = let g = among_cons other x xs in rw i (grind arith)
    by false i c j f = let g = among_cons other x xs in let h = among_cons other x (missing kept xs) in rw i (cc)

missing_one : (kept : Lists) (list : List Specifier) → among list kept ≡ true → missing kept (list ∷ []) ≡ []
missing_one kept list e = rw e refl

missing_other : (kept : Lists) (list : List Specifier) → among list kept ≡ false → missing kept (list ∷ []) ≡ list ∷ []
missing_other kept list e = rw e refl

-- from a list that is kept nothing is missing
settled_by : (n : ℕ) (list : List Specifier) (kept xs : Lists) (b : Bool) → is_done list xs ≡ b → IsTrue (is_done list kept)
    → (is_none list ≡ false → among list kept ≡ true → (missing kept (walk_within n (cars_of list) xs) ≡ missing kept xs) × (missing kept (walk_within n (cdrs_of list) (walk_within n (cars_of list) xs)) ≡ missing kept (walk_within n (cars_of list) xs)))
    → missing kept (walk_within (suc n) list xs) ≡ missing kept xs
settled_by n list kept xs true e h f = ap (missing kept) (step_done (suc n) list xs e)
settled_by n list kept xs false e h f =
    let some = some_of list xs e in
    let is : among list kept ≡ true = grind arith in
    let g = f some is in
    ap (missing kept) (step_new n list xs e) ∙ missing_append kept _ (list ∷ []) ∙ ap (λ x. missing kept (walk_within n (cdrs_of list) (walk_within n (cars_of list) xs)) ++ x) (missing_one kept list is) ∙ append-nil _ ∙ g.1 ∙ g.0

settled : (n : ℕ) (list : List Specifier) (kept xs : Lists) → IsClosed kept → IsTrue (is_done list kept) → missing kept (walk_within n list xs) ≡ missing kept xs
settled zero list kept xs c h = ap (missing kept) (step_none list xs)
settled (suc n) list kept xs c h =
    settled_by n list kept xs (is_done list xs) refl h
    (λ some is. (settled n (cars_of list) kept xs c (c list is).0, settled n (cdrs_of list) kept (walk_within n (cars_of list) xs) c (c list is).1))

done_missing : (list : List Specifier) (kept xs : Lists) → among list kept ≡ false → is_done list (kept ++ missing kept xs) ≡ is_done list xs
done_missing list kept xs e = let f = among_missing kept xs list e in let g = among_append list kept (missing kept xs) in grind arith

from_new : (n : ℕ) (list : List Specifier) (kept xs : Lists) (b : Bool) → is_done list xs ≡ b → among list kept ≡ false
    → walk_within n (cars_of list) (kept ++ missing kept xs) ≡ kept ++ missing kept (walk_within n (cars_of list) xs)
    → walk_within n (cdrs_of list) (kept ++ missing kept (walk_within n (cars_of list) xs)) ≡ kept ++ missing kept (walk_within n (cdrs_of list) (walk_within n (cars_of list) xs))
    → walk_within (suc n) list (kept ++ missing kept xs) ≡ kept ++ missing kept (walk_within (suc n) list xs)
from_new n list kept xs true e i f g = step_done (suc n) list _ (done_missing list kept xs i ∙ e) ∙ ap (λ x. kept ++ missing kept x) (sym (step_done (suc n) list xs e))
from_new n list kept xs false e i f g =
    step_new n list _ (done_missing list kept xs i ∙ e)
    ∙ ap (λ x. walk_within n (cdrs_of list) x ++ list ∷ []) f ∙ ap (λ x. x ++ list ∷ []) g
    ∙ append_assoc kept _ (list ∷ [])
    ∙ ap (λ x. kept ++ x) (ap (λ x. missing kept (walk_within n (cdrs_of list) (walk_within n (cars_of list) xs)) ++ x) (sym (missing_other kept list i)) ∙ sym (missing_append kept _ (list ∷ [])) ∙ ap (missing kept) (sym (step_new n list xs e)))

from_by : (n : ℕ) (list : List Specifier) (kept xs : Lists) (b : Bool) → among list kept ≡ b → IsClosed kept
    → walk_within n (cars_of list) (kept ++ missing kept xs) ≡ kept ++ missing kept (walk_within n (cars_of list) xs)
    → walk_within n (cdrs_of list) (kept ++ missing kept (walk_within n (cars_of list) xs)) ≡ kept ++ missing kept (walk_within n (cdrs_of list) (walk_within n (cars_of list) xs))
    → walk_within (suc n) list (kept ++ missing kept xs) ≡ kept ++ missing kept (walk_within (suc n) list xs)
from_by n list kept xs true e c f g =
    let h = among_append list kept (missing kept xs) in
    let i : is_done list kept ≡ true = grind arith in
    step_done (suc n) list _ (grind arith) ∙ ap (λ x. kept ++ x) (sym (settled (suc n) list kept xs c i))
from_by n list kept xs false e c f g = from_new n list kept xs (is_done list xs) refl e f g

from_to : (n : ℕ) (list : List Specifier) (kept xs : Lists) → IsClosed kept → walk_within n list (kept ++ missing kept xs) ≡ kept ++ missing kept (walk_within n list xs)
from_to zero list kept xs c = step_none list _ ∙ ap (λ x. kept ++ missing kept x) (sym (step_none list xs))
from_to (suc n) list kept xs c =
    from_by n list kept xs (among list kept) refl c (from_to n (cars_of list) kept xs c) (from_to n (cdrs_of list) kept (walk_within n (cars_of list) xs) c)

-- from kept lists a walk adds those that the list reaches and that are missing, in order
pub walk_from : (list : List Specifier) (kept : Lists) → IsClosed kept → walk list kept ≡ kept ++ missing kept (reached list)
unfolding walk
walk_from list kept c = ap (walk_within (height list) list) (sym (append-nil kept)) ∙ from_to (height list) list kept [] c

-- so what they add together is what those missing add
pub total_from : (list : List Specifier) (kept : Lists) → IsClosed kept → total (walk list kept) ≡ total kept + total (missing kept (reached list))
total_from list kept c = ap total (walk_from list kept c) ∙ sum_by-append part kept (missing kept (reached list))
