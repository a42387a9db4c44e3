-- The statuses of names, one after the other, where it is known which templates come back to themselves.
use Rattle.std.proofs.Common.{◌≡◌, ℕ, zero, suc, ◌+◌, ◌<◌, List, [], ◌∷◌, ◌++◌, Bool, Some, length, get_or, take, map, ap, subst, sym, ◌∙◌, arith}
use Rattle.std.specs.Prelude.{slice_get, if◌then◌else◌}
use Rattle.std.specs.List.{range_with_len}
use Rattle.std.proofs.lemmas.List.{take_more, map-append}
use Rattle.ls_env.specs.declared.status.NameStatus.{NameStatus}
use Rattle.ls_env.specs.declared.status.NameStatus.TheVariants as status
use Rattle.ls_env.specs.Reaching.{comes_back, or_false}
use Rattle.ls_env.specs.Statuses.{finished}
use Rattle.ls_env.specs.steps.Marking.{all_that_come_back, IsNumbered, AreNumbered}

-- what stands at a place of the values of a function, from a number on
mapped_at : (f : ℕ → Bool) (a n k : ℕ) → k < n → slice_get (map f (range_with_len a n)) k ≡ Some (f (a + k))
mapped_at f a zero k h = absurd (omega arith)
mapped_at f a (suc n) zero h = let e : a ≡ a + 0 = omega arith in ap (λ x. Some (f x)) e
mapped_at f a (suc n) (suc k) h = let e : a + 1 + k ≡ a + suc k = omega arith in mapped_at f (a + 1) n k (omega arith) ∙ ap (λ x. Some (f x)) e

module _ (graph : List (List ℕ)) (marks : List Bool) (n : ℕ) (s : NameStatus) where
  -- the mark of a template tells whether it comes back
  mark_tells : s ≡ status.Deftype n → marks ≡ all_that_come_back graph → IsNumbered (length graph) s
      → or_false (slice_get marks n) ≡ comes_back graph n
  mark_tells is are numbered =
      let within : n < length graph = subst (IsNumbered (length graph)) is numbered in
      let e : 0 + n ≡ n = omega arith in
      ap (λ ms. or_false (slice_get ms n)) are ∙ ap or_false (mapped_at (comes_back graph) 0 (length graph) n within) ∙ ap (comes_back graph) e

  -- the status of a template by its mark
  pub status_by_mark : (b : Bool) → s ≡ status.Deftype n → b ≡ or_false (slice_get marks n)
      → marks ≡ all_that_come_back graph → IsNumbered (length graph) s
      → (if b then status.Recursive else status.Deftype n) ≡ finished graph s
  status_by_mark b is mark are numbered =
      ap (λ (x : Bool). if x then status.Recursive else status.Deftype n) (mark ∙ mark_tells is are numbered) ∙ sym (ap (finished graph) is)

-- what holds of each status holds of the one at a place
pub numbered_at : (count : ℕ) (ss : List NameStatus) (i : ℕ) (d : NameStatus) → AreNumbered count ss → i < length ss
    → IsNumbered count (get_or ss i d)
numbered_at count [] i d all h = absurd (omega arith)
numbered_at count (x ∷ ss) zero d all h = all.0
numbered_at count (x ∷ ss) (suc i) d all h = numbered_at count ss i d all.1 (omega arith)

-- the statuses so far with one more
pub finished_next : (graph : List (List ℕ)) (ss old new : List NameStatus) (i : ℕ) (d t : NameStatus) → i < length ss
    → t ≡ finished graph (get_or ss i d) → new ≡ old ++ t ∷ [] → old ≡ map (finished graph) (take i ss)
    → new ≡ map (finished graph) (take (i + 1) ss)
finished_next graph ss old new i d t h made pushed so_far =
    pushed
    ∙ ap (λ xs. xs ++ t ∷ []) so_far
    ∙ ap (λ x. map (finished graph) (take i ss) ++ x ∷ []) made
    ∙ sym (ap (map (finished graph)) (take_more ss i d h) ∙ map-append (finished graph) (take i ss) (get_or ss i d ∷ []))
