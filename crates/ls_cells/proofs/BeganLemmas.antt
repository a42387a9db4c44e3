-- What a walk that was broken off, or that went through, leaves and took.
use Rattle.std.proofs.Common.{ℕ, ◌≡◌, ◌≤◌, ◌+◌, sym, ◌∙◌, ap, subst, arith, List, [], ◌∷◌, ◌++◌, append_assoc, append-nil, false, IsTrue}
use Rattle.std.proofs.lemmas.List.Sums.{sum_by-append, sum_by_push}
use Rattle.ls_spec.specs.Specifier.{Specifier}
use Rattle.ls_lists.specs.Sides.{cars_of, cdrs_of}
use Rattle.ls_lists.specs.Walks.{part, is_done, walk, total, IsClosed}
use Rattle.ls_lists.proofs.AmongLemmas.{done_more}
use Rattle.ls_lists.proofs.WalkLemmas.{walk_new, walk_adds}
use Rattle.ls_lists.proofs.KeptLemmas.{walk_closed}
use Rattle.ls_cells.specs.Kept.{Began}

abbrev Lists : Type 0
Lists = List (List Specifier)

walk_total : (list : List Specifier) (old : Lists) → total old ≤ total (walk list old)
walk_total list old =
    let a = walk_adds list old in
    let e = ap total a.1 in
    let f = sum_by-append part old a.0 in omega arith

new_total : (list : List Specifier) (old : Lists) → is_done list old ≡ false → total (walk list old) ≡ total (walk (cdrs_of list) (walk (cars_of list) old)) + part list
new_total list old e = ap total (walk_new list old e) ∙ sum_by_push part (walk (cdrs_of list) (walk (cars_of list) old)) list

-- nothing was made
pub began_start : (list : List Specifier) (old : Lists) (s : ℕ) → Began list old old s s
began_start list old s = let a = walk_adds list old in let t = walk_total list old in record { more = a.0; is = a.1; steps = omega arith }

-- it was broken off among the cars
pub began_cars : (list : List Specifier) (old new : Lists) (s0 s1 : ℕ) → is_done list old ≡ false → Began (cars_of list) old new s0 s1 → Began list old new s0 s1
began_cars list old new s0 s1 e b =
    let a = walk_adds (cdrs_of list) (walk (cars_of list) old) in
    let t = new_total list old e in
    let u = walk_total (cdrs_of list) (walk (cars_of list) old) in
    let v = b.steps in
    record {
      more = b.more ++ (a.0 ++ list ∷ []);
      is = walk_new list old e ∙ ap (λ x. x ++ list ∷ []) (a.1 ∙ ap (λ x. x ++ a.0) b.is) ∙ append_assoc (new ++ b.more) a.0 (list ∷ []) ∙ append_assoc new b.more (a.0 ++ list ∷ []);
      steps = omega arith;
    }

-- the steps of what went through
pub most_all : (list : List Specifier) (old new : Lists) (s0 s1 : ℕ) → Began list old new s0 s1 → new ≡ walk list old → s1 + total old ≤ s0 + total new
most_all list old new s0 s1 b e = let v = b.steps in let w = ap total e in omega arith

-- it was broken off among the cdrs
pub began_cdrs : (list : List Specifier) (old mid new : Lists) (s0 s1 s2 : ℕ) → is_done list old ≡ false → mid ≡ walk (cars_of list) old → Began (cars_of list) old mid s0 s1 → Began (cdrs_of list) mid new s1 s2 → Began list old new s0 s2
began_cdrs list old mid new s0 s1 s2 e m first b =
    let t = new_total list old e in
    let h = most_all (cars_of list) old mid s0 s1 first m in
    let v = b.steps in
    let w = ap (λ x. total (walk (cdrs_of list) x)) m in
    record {
      more = b.more ++ list ∷ [];
      is = walk_new list old e ∙ ap (λ x. x ++ list ∷ []) (ap (walk (cdrs_of list)) (sym m) ∙ b.is) ∙ append_assoc new b.more (list ∷ []);
      steps = omega arith;
    }

-- the list itself was begun
pub began_own : (list : List Specifier) (old mid two : Lists) (s0 s1 s2 s3 : ℕ) → is_done list old ≡ false → mid ≡ walk (cars_of list) old → two ≡ walk (cdrs_of list) mid
    → Began (cars_of list) old mid s0 s1 → Began (cdrs_of list) mid two s1 s2 → s3 ≤ s2 + part list → Began list old two s0 s3
began_own list old mid two s0 s1 s2 s3 e m n first second k =
    let t = new_total list old e in
    let h = most_all (cars_of list) old mid s0 s1 first m in
    let i = most_all (cdrs_of list) mid two s1 s2 second n in
    let w = ap total (n ∙ ap (walk (cdrs_of list)) m) in
    record { more = list ∷ []; is = walk_new list old e ∙ ap (λ x. x ++ list ∷ []) (sym (n ∙ ap (walk (cdrs_of list)) m)); steps = omega arith }

pub own_walked : (list : List Specifier) (old mid two new : Lists) → is_done list old ≡ false → mid ≡ walk (cars_of list) old → two ≡ walk (cdrs_of list) mid → new ≡ two ++ list ∷ [] → new ≡ walk list old
own_walked list old mid two new e m n o = o ∙ ap (λ x. x ++ list ∷ []) (n ∙ ap (walk (cdrs_of list)) m) ∙ sym (walk_new list old e)

-- all of it was made
pub began_all : (list : List Specifier) (old mid two new : Lists) (s0 s1 s2 s3 : ℕ) → is_done list old ≡ false → mid ≡ walk (cars_of list) old → two ≡ walk (cdrs_of list) mid
    → Began (cars_of list) old mid s0 s1 → Began (cdrs_of list) mid two s1 s2 → s3 ≤ s2 + part list → new ≡ two ++ list ∷ [] → Began list old new s0 s3
began_all list old mid two new s0 s1 s2 s3 e m n first second k o =
    let b = began_own list old mid two s0 s1 s2 s3 e m n first second k in
    let v = b.steps in
    record { more = []; is = sym (own_walked list old mid two new e m n o) ∙ sym (append-nil new); steps = v }

-- the cars and the cdrs are done before the list is made
pub sides_done : (list : List Specifier) (old mid two : Lists) → IsClosed old → mid ≡ walk (cars_of list) old → two ≡ walk (cdrs_of list) mid → IsTrue (is_done (cars_of list) two) × IsTrue (is_done (cdrs_of list) two)
sides_done list old mid two c m n =
    let f = walk_closed (cars_of list) old c in
    let g = walk_closed (cdrs_of list) mid (subst IsClosed (sym m) f.0) in
    let a = walk_adds (cdrs_of list) mid in
    (subst (λ x. IsTrue (is_done (cars_of list) x)) (sym (n ∙ a.1)) (done_more (cars_of list) mid a.0 (subst (λ x. IsTrue (is_done (cars_of list) x)) (sym m) f.1)), subst (λ x. IsTrue (is_done (cdrs_of list) x)) (sym n) g.1)
