-- Lists that are walked add no more than others among which they are.
use Rattle.std.proofs.Common.{ℕ, zero, suc, ◌≡◌, ◌≤◌, ◌+◌, refl, sym, ◌∙◌, ap, subst, List, [], ◌∷◌, ◌++◌, append_assoc, append-nil, length, Bool, true, false, not, IsTrue, ◌||◌, if◌then◌else◌, arith}
use Rattle.std.specs.List.{AllByRecursion, sum_by}
use Rattle.std.proofs.lemmas.List.Sums.{sum_by-cons, sum_by_push}
use Rattle.ls_spec.specs.Specifier.{Specifier}
use Rattle.ls_lists.specs.Sides.{cars_of, cdrs_of, height}
use Rattle.ls_lists.specs.Walks.{part, among, is_done, walk, walk_all, total, missing, IsClosed}
use Rattle.ls_lists.proofs.FallLemmas.{cars_fall, cdrs_fall}
use Rattle.ls_lists.proofs.AmongLemmas.{among_itself, among_append, among_one, done_more}
use Rattle.ls_lists.proofs.WalkLemmas.{some_of, none_done, walk_done, walk_new, walk_adds, walk_fresh}
use Rattle.ls_lists.proofs.KeptLemmas.{walk_closed}

abbrev Lists : Type 0
Lists = List (List Specifier)

-- nothing is among no lists
among_none : (list : List Specifier) → among list [] ≡ false
unfolding among
among_none list = refl

-- to walk lists one behind the other is to walk the second from where the first ended
pub walk_all-append : (xs ys seen : Lists) → walk_all (xs ++ ys) seen ≡ walk_all ys (walk_all xs seen)
unfolding walk_all
walk_all-append [] ys seen = refl
walk_all-append (x ∷ xs) ys seen = walk_all-append xs ys (walk x seen)

-- the walk of all lists adds at the end
walk_all_adds : (xs seen : Lists) → (more : Lists) × (walk_all xs seen ≡ seen ++ more)
unfolding walk_all
walk_all_adds [] seen = ([], sym (append-nil seen))
walk_all_adds (x ∷ xs) seen =
    let one = walk_adds x seen in
    let two = walk_all_adds xs (walk x seen) in
    (one.0 ++ two.0, two.1 ∙ ap (λ l. l ++ two.0) one.1 ∙ append_assoc seen one.0 two.0)

-- the walk of all lists keeps closed what is closed
walk_all_closed : (xs seen : Lists) → IsClosed seen → IsClosed (walk_all xs seen)
unfolding walk_all
walk_all_closed [] seen c = c
walk_all_closed (x ∷ xs) seen c = walk_all_closed xs (walk x seen) (walk_closed x seen c).0

-- each of the lists walked is done after the walk
walk_all_done : (xs seen : Lists) → IsClosed seen → (list : List Specifier) → IsTrue (among list xs)
    → IsTrue (is_done list (walk_all xs seen))
unfolding walk_all
walk_all_done [] seen c list h = let e = among_none list in absurd (cc)
walk_all_done (x ∷ xs) seen c list h =
    by (among list (x ∷ [])) refl (walk_all_done xs (walk x seen) (walk_closed x seen c).0 list)
  where
    here : list ≡ x → IsTrue (is_done list (walk_all xs (walk x seen)))
    here i =
        let more = walk_all_adds xs (walk x seen) in
        subst (λ l. IsTrue (is_done l (walk_all xs (walk x seen)))) (sym i)
        (subst (λ l. IsTrue (is_done x l)) (sym more.1) (done_more x (walk x seen) more.0 (walk_closed x seen c).1))

    by : (b : Bool) → among list (x ∷ []) ≡ b
        → (IsTrue (among list xs) → IsTrue (is_done list (walk_all xs (walk x seen))))
        → IsTrue (is_done list (walk_all xs (walk x seen)))
    by true i f = here (among_one list x i)
    by false i f = f (let j = among_append list (x ∷ []) xs in grind arith)

-- what a list weighs where it is not kept, and else nothing
abbrev owed : (List Specifier → ℕ) → Lists → List Specifier → ℕ
owed weight kept list = if among list kept then 0 else weight list

-- those missing weigh together what each owes
missing_cons : (weight : List Specifier → ℕ) (kept : Lists) (x : List Specifier) (xs : Lists)
    → sum_by weight (missing kept (x ∷ xs)) ≡ owed weight kept x + sum_by weight (missing kept xs)
missing_cons weight kept x xs = by (among x kept)
  where
    by : (b : Bool) → sum_by weight (if not b then x ∷ missing kept xs else missing kept xs)
        ≡ (if b then 0 else weight x) + sum_by weight (missing kept xs)
    by true = omega arith
    by false = sum_by-cons weight x (missing kept xs)

-- where more is kept, a list owes no more
owed_less : (weight : List Specifier → ℕ) (kept more : Lists) (x : List Specifier)
    → owed weight (kept ++ more) x ≤ owed weight kept x
owed_less weight kept more x = rw (among_append x kept more) (by (among x kept) (among x more))
  where
    by : (b c : Bool) → (if b || c then 0 else weight x) ≤ (if b then 0 else weight x)
    by true c = omega arith
    by false true = omega arith
    by false false = omega arith

-- where more is kept, those missing weigh no more
missing_less : (weight : List Specifier → ℕ) (kept more xs : Lists)
    → sum_by weight (missing (kept ++ more) xs) ≤ sum_by weight (missing kept xs)
missing_less weight kept more [] = omega arith
missing_less weight kept more (x ∷ xs) =
    omega (
      arith,
      missing_cons weight (kept ++ more) x xs,
      missing_cons weight kept x xs,
      owed_less weight kept more x,
      missing_less weight kept more xs,
    )

-- a list owes what it weighs before it is kept
owed_before : (weight : List Specifier → ℕ) (kept : Lists) (list : List Specifier) → among list kept ≡ false
    → owed weight kept list ≡ weight list
owed_before weight kept list e = rw e refl

-- a list owes nothing once it is kept
owed_after : (weight : List Specifier → ℕ) (kept : Lists) (list : List Specifier)
    → owed weight (kept ++ list ∷ []) list ≡ 0
owed_after weight kept list =
    let i = among_append list kept (list ∷ []) in
    let j = among_itself list [] in
    let e : among list (kept ++ list ∷ []) ≡ true = grind arith in
    rw e refl

-- once a list of those is kept, those missing weigh less by the list at least
missing_paid : (weight : List Specifier → ℕ) (kept : Lists) (list : List Specifier) → among list kept ≡ false
    → (xs : Lists) → IsTrue (among list xs)
    → weight list + sum_by weight (missing (kept ++ list ∷ []) xs) ≤ sum_by weight (missing kept xs)
missing_paid weight kept list e [] h = let i = among_none list in absurd (cc)
missing_paid weight kept list e (x ∷ xs) h = by (among list (x ∷ [])) refl (missing_paid weight kept list e xs)
  where
    both : weight list + (owed weight (kept ++ list ∷ []) x + sum_by weight (missing (kept ++ list ∷ []) xs))
        ≤ owed weight kept x + sum_by weight (missing kept xs)
        → weight list + sum_by weight (missing (kept ++ list ∷ []) (x ∷ xs)) ≤ sum_by weight (missing kept (x ∷ xs))
    both k = omega (arith, k, missing_cons weight (kept ++ list ∷ []) x xs, missing_cons weight kept x xs)

    AtFirst : List Specifier → Type 0
    AtFirst y =
        weight list + (owed weight (kept ++ list ∷ []) y + sum_by weight (missing (kept ++ list ∷ []) xs))
        ≤ owed weight kept y + sum_by weight (missing kept xs)

    here : list ≡ x → AtFirst x
    here i = subst AtFirst i
        (omega
        (arith, owed_before weight kept list e, owed_after weight kept list, missing_less weight kept (list ∷ []) xs))

    by : (b : Bool) → among list (x ∷ []) ≡ b
        → (IsTrue (among list xs)
        → weight list + sum_by weight (missing (kept ++ list ∷ []) xs) ≤ sum_by weight (missing kept xs))
        → weight list + sum_by weight (missing (kept ++ list ∷ []) (x ∷ xs)) ≤ sum_by weight (missing kept (x ∷ xs))
    by true i f = both (here (among_one list x i))
    by false i f =
        let k = f (let j = among_append list (x ∷ []) xs in grind arith) in
        both (omega (arith, k, owed_less weight kept (list ∷ []) x))

-- what the kept lists weigh, with those of all that are missing
abbrev rest : (List Specifier → ℕ) → Lists → Lists → ℕ
rest weight all kept = sum_by weight kept + sum_by weight (missing kept all)

-- a list of all that is newly kept leaves no more
rest_push : (weight : List Specifier → ℕ) (all kept : Lists) (list : List Specifier) → among list kept ≡ false
    → IsTrue (among list all) → rest weight all (kept ++ list ∷ []) ≤ rest weight all kept
rest_push weight all kept list e h = omega (arith, sum_by_push weight kept list, missing_paid weight kept list e all h)

-- a walk within closed lists leaves no more
rest_walk : (weight : List Specifier → ℕ) (all : Lists) → IsClosed all → (n : ℕ) (list : List Specifier) (kept : Lists)
    → height list ≤ n → IsTrue (is_done list all) → rest weight all (walk list kept) ≤ rest weight all kept
rest_walk weight all c zero list kept k h = rw (walk_done list kept (none_done list kept k)) (omega arith)
rest_walk weight all c (suc n) list kept k h =
    by (is_done list kept) refl
    (λ is. rest_walk weight all c n (cars_of list) kept (cars_fall list n k) (c list is).0)
    (λ is. rest_walk weight all c n (cdrs_of list) (walk (cars_of list) kept) (cdrs_fall list n k) (c list is).1)
  where
    by : (b : Bool) → is_done list kept ≡ b
        → (IsTrue (among list all) → rest weight all (walk (cars_of list) kept) ≤ rest weight all kept)
        → (IsTrue (among list all)
        → rest weight all (walk (cdrs_of list) (walk (cars_of list) kept))
        ≤ rest weight all (walk (cars_of list) kept))
        → rest weight all (walk list kept) ≤ rest weight all kept
    by true e f g = rw (walk_done list kept e) (omega arith)
    by false e f g =
        let some = some_of list kept e in
        let is : IsTrue (among list all) = grind arith in
        let parts = walk (cdrs_of list) (walk (cars_of list) kept) in
        let last = rest_push weight all parts list (walk_fresh list kept e) is in
        rw (walk_new list kept e) (omega (arith, last, f is, g is))

-- nor does the walk of many lists within them
rest_walk_all : (weight : List Specifier → ℕ) (all : Lists) → IsClosed all
    → (P : List Specifier → Type 0) → ((list : List Specifier) → P list → IsTrue (is_done list all))
    → (ls kept : Lists) → AllByRecursion P ls → rest weight all (walk_all ls kept) ≤ rest weight all kept
unfolding walk_all
rest_walk_all weight all c P done [] kept h = omega arith
rest_walk_all weight all c P done (list ∷ ls) kept h =
    let one = rest_walk weight all c (height list) list kept (omega arith) (done list h.0) in
    let others = rest_walk_all weight all c P done ls (walk list kept) h.1 in
    omega (arith, one, others)

-- where none is kept, all are missing
missing_all : (all : Lists) → missing [] all ≡ all
missing_all [] = refl
missing_all (x ∷ all) = rw (among_none x) (ap (λ l. x ∷ l) (missing_all all))

-- to have kept none is closed
none_closed : IsClosed []
none_closed list h = let e = among_none list in absurd (cc)

-- lists walked from none weigh no more than those walked from other lists among which they are
pub weight_within : (weight : List Specifier → ℕ) (ls others : Lists) → AllByRecursion (λ l. IsTrue (among l others)) ls
    → sum_by weight (walk_all ls []) ≤ sum_by weight (walk_all others [])
weight_within weight ls others within =
    let all = walk_all others [] in
    let closed = walk_all_closed others [] none_closed in
    let done = walk_all_done others [] none_closed in
    let fewer = rest_walk_all weight all closed (λ l. IsTrue (among l others)) done ls [] within in
    omega (arith, fewer, ap (sum_by weight) (missing_all all))

-- so what they add to the cost is no more
pub total_within : (ls others : Lists) → AllByRecursion (λ l. IsTrue (among l others)) ls
    → total (walk_all ls []) ≤ total (walk_all others [])
total_within ls others within = weight_within part ls others within

-- where each weighs one, lists weigh as many as they are
ones : (xs : Lists) → sum_by (λ l. 1) xs ≡ length xs
ones [] = refl
ones (x ∷ xs) = omega (arith, sum_by-cons (λ (l : List Specifier). 1) x xs, ones xs)

-- and they are no more in number
pub length_within : (ls others : Lists) → AllByRecursion (λ l. IsTrue (among l others)) ls
    → length (walk_all ls []) ≤ length (walk_all others [])
length_within ls others within =
    omega (arith, weight_within (λ l. 1) ls others within, ones (walk_all ls []), ones (walk_all others []))
