-- Walks of several lists, one after another: which lists are kept behind them, and how many steps they make.
use Rattle.std.proofs.Common.{ℕ, ◌≡◌, ◌≤◌, ◌+◌, refl, sym, ◌∙◌, ap, subst, List, [], ◌∷◌, ◌++◌, append_assoc, append-nil, Bool, true, false, not, IsTrue, ◌||◌, if◌then◌else◌, arith}
use Rattle.std.specs.List.{AllByRecursion, sum_by}
use Rattle.std.specs.Cmp.Lexicographic.{pointwise}
use Rattle.std.proofs.lemmas.List.Sums.{sum_by-cons, sum_by-append}
use Rattle.ls_object.specs.Universe.{Structures}
use Rattle.ls_spec.specs.Specifier.{Specifier}
use Rattle.ls_spec.specs.Distinct.{same}
use Rattle.ls_spec.proofs.ListLemmas.{AllByRecursion-weaker, AllByRecursion-append}
use Rattle.ls_lists.specs.Walks.{part, among, is_done, walk, walk_all, reached, total, sum, missing, IsClosed}
use Rattle.ls_lists.specs.Costs.{element_lists}
use Rattle.ls_lists.proofs.AmongLemmas.{among_itself, among_append, among_more}
use Rattle.ls_lists.proofs.WalkLemmas.{walk_done, walk_adds}
use Rattle.ls_lists.proofs.KeptLemmas.{walk_from, walk_closed, total_from}
use Rattle.ls_cells.specs.Kept.{Entries, lists, count_rows, Grows, Began}
use Rattle.ls_decide.specs.declared.answer.Answer.{Answer}
use Rattle.ls_decide.specs.declared.answer.Answer.TheVariants.{Yes, No, Unsure, TooLarge}
use Rattle.ls_decide.specs.Sessions.{AreAllKept, Works, HasMade, HasDone, IsPaid}
use Rattle.ls_decide.specs.steps.Comparing.{IsRightWithin}
use Rattle.ls_decide.specs.steps.Pairs.{lists_behind}

abbrev Lists : Type 0
Lists = List (List Specifier)

-- what several walks add, one after another
pub walk_all_append : (xs ys seen : Lists) → walk_all (xs ++ ys) seen ≡ walk_all ys (walk_all xs seen)
unfolding walk_all
walk_all_append [] ys seen = refl
walk_all_append (x ∷ xs) ys seen = walk_all_append xs ys (walk x seen)

walk_one : (list : List Specifier) (seen : Lists) → walk_all (list ∷ []) seen ≡ walk list seen
unfolding walk_all
walk_one list seen = refl

-- lists that are done add nothing
walk_all_done : (ls seen : Lists) → AllByRecursion (λ l. IsTrue (is_done l seen)) ls → walk_all ls seen ≡ seen
unfolding walk_all
walk_all_done [] seen h = refl
walk_all_done (x ∷ xs) seen h = ap (λ (s : Lists). walk_all xs s) (walk_done x seen h.0) ∙ walk_all_done xs seen h.1

pub walk_all_closed : (ls seen : Lists) → IsClosed seen → IsClosed (walk_all ls seen)
unfolding walk_all
walk_all_closed [] seen h = h
walk_all_closed (x ∷ xs) seen h = walk_all_closed xs (walk x seen) (walk_closed x seen h).0

-- walks take nothing away
total_walk : (list : List Specifier) (seen : Lists) → total seen ≤ total (walk list seen)
total_walk list seen =
    let more = walk_adds list seen in
    let e = ap total more.1 ∙ sum_by-append part seen more.0 in
    omega (arith, e)

total_walk_all : (ls seen : Lists) → total seen ≤ total (walk_all ls seen)
unfolding walk_all
total_walk_all [] seen = omega arith
total_walk_all (x ∷ xs) seen =
    let one = total_walk x seen in
    let rest = total_walk_all xs (walk x seen) in
    omega (arith, one, rest)

total_step : (kept xs : Lists) (x : List Specifier) (b : Bool) → total (if b then x ∷ missing kept xs else missing kept xs) ≤ part x + total (missing kept xs)
total_step kept xs x true = let e = sum_by-cons part x (missing kept xs) in omega (arith, e)
total_step kept xs x false = omega arith

-- the lists that are missing add no more than all
total_missing : (kept xs : Lists) → total (missing kept xs) ≤ total xs
total_missing kept [] = omega arith
total_missing kept (x ∷ xs) =
    let step : total (missing kept (x ∷ xs)) ≤ part x + total (missing kept xs) = total_step kept xs x (not (among x kept)) in
    let rest = total_missing kept xs in
    let e = sum_by-cons part x xs in
    omega (arith, step, rest, e)

-- walks add no more than the lists cost
total_added : (ls seen : Lists) → IsClosed seen → total (walk_all ls seen) ≤ total seen + sum_by sum ls
unfolding walk_all
total_added [] seen h = omega arith
total_added (x ∷ xs) seen h =
    let one = total_from x seen h in
    let less = total_missing seen (reached x) in
    let rest = total_added xs (walk x seen) (walk_closed x seen h).0 in
    let e = sum_by-cons sum x xs in
    omega (arith, one, less, rest, e)

-- so the steps of a call are within what its lists cost
pub steps-within_cost : (ls : Lists) (old : Entries) (before now : ℕ) → IsClosed (lists old) → now + total (lists old) ≤ before + total (walk_all ls (lists old)) → now ≤ before + sum_by sum ls
steps-within_cost ls old before now closed steps =
    let added = total_added ls (lists old) closed in
    omega (arith, added, steps)

no_step : (ls : Lists) (old : Entries) (before now : ℕ) → before ≤ now → now + total (lists old) ≤ before + total (walk_all ls (lists old))
    → AllByRecursion (λ l. IsTrue (is_done l (lists old))) ls → now ≡ before
no_step ls old before now rises steps kept =
    let same : total (walk_all ls (lists old)) ≡ total (lists old) = ap total (walk_all_done ls (lists old) kept) in
    omega (arith, rises, steps, same)

works : (ls : Lists) (old new : Entries) (before now : ℕ) → Grows old new → count_rows new + before ≤ count_rows old + now → before ≤ now
    → now + total (lists old) ≤ before + total (walk_all ls (lists old)) → Works ls old new before now
works ls old new before now grows rows rises steps =
    record { grows = grows; rows = rows; rises = rises; steps = steps; again = no_step ls old before now rises steps }

-- a call that does nothing
pub Works-none : (ls : Lists) (old : Entries) (n : ℕ) → Works ls old old n n
Works-none ls old n =
    works ls old old n n (record { more = []; is = sym (append-nil old) }) (omega arith) (omega arith) (let t = total_walk_all ls (lists old) in omega (arith, t))

-- rows were made for a list, or for some of those that it reaches
pub Works-one : (list : List Specifier) (old new : Entries) (before now : ℕ) → Grows old new → count_rows new + before ≤ count_rows old + now → before ≤ now
    → Began list (lists old) (lists new) before now → Works (list ∷ []) old new before now
Works-one list old new before now grows rows rises began =
    works (list ∷ []) old new before now grows rows rises (subst (λ (s : Lists). now + total (lists old) ≤ before + total s) (sym (walk_one list (lists old))) began.steps)

-- some of the lists were made
pub Works-front : (xs ys : Lists) (old new : Entries) (before now : ℕ) → Works xs old new before now → Works (xs ++ ys) old new before now
Works-front xs ys old new before now w =
    let more = total_walk_all ys (walk_all xs (lists old)) in
    let e = ap total (walk_all_append xs ys (lists old)) in
    let s = w.steps in
    works (xs ++ ys) old new before now w.grows w.rows w.rises (omega (arith, more, e, s))

grows_both : {X : Type 0} (old mid new : List X) → Grows old mid → Grows mid new → Grows old new
grows_both old mid new f g = record { more = f.more ++ g.more; is = g.is ∙ ap (λ l. l ++ g.more) f.is ∙ append_assoc old f.more g.more }

-- some were made, and then others
pub Works-both : (xs ys : Lists) (old mid new : Entries) (before between now : ℕ) → Works xs old mid before between → lists mid ≡ walk_all xs (lists old) → Works ys mid new between now
    → Works (xs ++ ys) old new before now
Works-both xs ys old mid new before between now f walked g =
    let e = ap total (walk_all_append xs ys (lists old)) in
    let m = ap total walked in
    let n = ap (λ (s : Lists). total (walk_all ys s)) walked in
    let fs = f.steps in let gs = g.steps in
    let fr = f.rows in let gr = g.rows in
    let fu = f.rises in let gu = g.rises in
    works (xs ++ ys) old new before now (grows_both old mid new f.grows g.grows) (omega (arith, fr, gr)) (omega (arith, fu, gu)) (omega (arith, e, m, n, fs, gs))

-- ---- what is kept behind a walk

among_cons : (other list : List Specifier) (xs : Lists) → among other (list ∷ xs) ≡ (pointwise same other list || among other xs)
unfolding among
among_cons other list xs = refl

wider : (kept xs : Lists) (x l : List Specifier) → IsTrue (among l (kept ++ xs)) → IsTrue (among l (kept ++ x ∷ xs))
wider kept xs x l h =
    let e = among_append l kept xs in
    let f = among_append l kept (x ∷ xs) in
    let g = among_cons l x xs in
    grind arith

first_kept : (kept xs : Lists) (x : List Specifier) → IsTrue (among x (kept ++ x ∷ xs))
first_kept kept xs x =
    let e = among_append x kept (x ∷ xs) in
    let f = among_itself x xs in
    grind arith

abbrev AreAmong : Lists → Lists → Type 0
AreAmong kept xs = AllByRecursion (λ l. IsTrue (among l kept)) xs

-- with those that were missing behind them, all are kept
all_kept : (kept xs : Lists) → AreAmong (kept ++ missing kept xs) xs
all_kept kept [] = tt
all_kept kept (x ∷ xs) = by (among x kept) refl (all_kept kept xs)
  where
    by : (b : Bool) → among x kept ≡ b → AreAmong (kept ++ missing kept xs) xs → AreAmong (kept ++ (if not b then x ∷ missing kept xs else missing kept xs)) (x ∷ xs)
    by true e h = (among_more x kept (missing kept xs) e, h)
    by false e h = (
      first_kept kept (missing kept xs) x,
      AllByRecursion-weaker (λ l. IsTrue (among l (kept ++ missing kept xs))) (λ l. IsTrue (among l (kept ++ x ∷ missing kept xs))) (λ l k. wider kept (missing kept xs) x l k) xs h,
    )

-- where a list is kept, so are all that it reaches
kept_reached : (list : List Specifier) (kept : Lists) → IsClosed kept → IsTrue (among list kept) → AreAmong kept (reached list)
kept_reached list kept closed here =
    let done : is_done list kept ≡ true = grind arith in
    subst (λ (ls : Lists). AreAmong ls (reached list)) (sym (walk_from list kept closed) ∙ walk_done list kept done) (all_kept kept (reached list))

-- one list was made with all that it reaches
pub HasMade-one : (list : List Specifier) (old new : Entries) → lists new ≡ walk list (lists old) → IsClosed (lists new) → IsTrue (among list (lists new)) → HasMade (list ∷ []) old new
HasMade-one list old new walked closed here =
    record { walked = walked ∙ sym (walk_one list (lists old)); kept = (kept_reached list (lists new) closed here, tt) }

pub HasMade-none : (old : Entries) → HasMade [] old old
HasMade-none old = record { walked = sym (walk_all_done [] (lists old) tt); kept = tt }

lists_append : (xs ys : Entries) → lists (xs ++ ys) ≡ lists xs ++ lists ys
lists_append [] ys = refl
lists_append (x ∷ xs) ys = ap (λ (l : Lists). x.0 ∷ l) (lists_append xs ys)

-- what is kept stays
kept_grown : (ls : Lists) (old new : Entries) → Grows old new → AreAllKept ls old → AreAllKept ls new
kept_grown ls old new g h =
    AllByRecursion-weaker (λ list. AreAmong (lists old) (reached list)) (λ list. AreAmong (lists new) (reached list))
    (λ list k. AllByRecursion-weaker (λ l. IsTrue (among l (lists old))) (λ l. IsTrue (among l (lists new)))
    (λ l m. subst (λ (s : Lists). IsTrue (among l s)) (sym (ap lists g.is ∙ lists_append old g.more)) (among_more l (lists old) (lists g.more) m)) (reached list) k) ls h

-- some were made, and then others
pub HasMade-both : (xs ys : Lists) (old mid new : Entries) → HasMade xs old mid → Grows mid new → HasMade ys mid new → HasMade (xs ++ ys) old new
HasMade-both xs ys old mid new f grows g = record {
  walked = g.walked ∙ ap (λ (s : Lists). walk_all ys s) f.walked ∙ sym (walk_all_append xs ys (lists old));
  kept = AllByRecursion-append (λ list. AreAmong (lists new) (reached list)) xs ys (kept_grown xs mid new grows f.kept) g.kept;
}

-- what is said of an answer within the budget
pub HasDone-made : (structures : Structures) (a b : Specifier) (old new : Entries) (before now : ℕ) (answer : Answer) → IsRightWithin structures a b answer
    → HasMade (element_lists (a ∷ b ∷ []) ++ lists_behind a b answer) old new → HasDone a b old new before now answer
HasDone-made structures a b old new before now TooLarge right made = absurd right
HasDone-made structures a b old new before now Yes right made = made
HasDone-made structures a b old new before now (No o) right made = made
HasDone-made structures a b old new before now (Unsure o) right made = made

-- ---- what steps are paid by

-- a call that makes nothing
pub IsPaid-same : (old new : Entries) (before now : ℕ) → new ≡ old → now ≡ before → IsPaid old new before now
IsPaid-same old new before now e f =
    let t = ap (λ (es : Entries). total (lists es)) e in
    omega (arith, t, f)

-- the lists that were made pay for them
pub IsPaid-made : (ls : Lists) (old new : Entries) (before now : ℕ) → Works ls old new before now → HasMade ls old new → IsPaid old new before now
IsPaid-made ls old new before now w made =
    let e = ap total made.walked in
    let s = w.steps in
    omega (arith, e, s)

-- one after another
pub IsPaid-both : (old mid new : Entries) (before between now : ℕ) → IsPaid old mid before between → IsPaid mid new between now → IsPaid old new before now
IsPaid-both old mid new before between now f g = omega (arith, f, g)

-- ---- a list by another name, and what stays behind it

-- rows were made for a list
pub works_listed : (found list : List Specifier) (old new : Entries) (before now : ℕ) → found ≡ list → Grows old new → count_rows new + before ≤ count_rows old + now → before ≤ now
    → Began found (lists old) (lists new) before now → Works (list ∷ []) old new before now
works_listed found list old new before now is grows rows rises began =
    subst (λ (l : List Specifier). Works (l ∷ []) old new before now) is (Works-one found old new before now grows rows rises began)

-- what is kept did not change since
pub works_then : (ls : Lists) (old new last : Entries) (before now : ℕ) → last ≡ new → Works ls old new before now → Works ls old last before now
works_then ls old new last before now is w = subst (λ (es : Entries). Works ls old es before now) (sym is) w

-- a list was made with all that it reaches, and what is kept did not change since
pub made_listed : (found list : List Specifier) (old new last : Entries) → found ≡ list → lists new ≡ walk found (lists old) → IsClosed (lists old)
    → IsTrue (among found (lists new)) → last ≡ new → HasMade (list ∷ []) old last
made_listed found list old new last is walked closed here same =
    let after : IsClosed (lists new) = subst IsClosed (sym walked) (walk_closed found (lists old) closed).0 in
    subst (λ (es : Entries). HasMade (list ∷ []) old es) (sym same) (subst (λ (l : List Specifier). HasMade (l ∷ []) old new) is (HasMade-one found old new walked after here))
