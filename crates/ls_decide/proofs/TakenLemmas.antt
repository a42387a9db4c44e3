-- What has come of a store once the codes of some element types were learnt.
use Rattle.std.proofs.Common.{ℕ, zero, suc, ◌≡◌, ◌+◌, ◌<◌, ◌≤◌, refl, sym, ◌∙◌, ap, subst, List, [], ◌∷◌, ◌++◌, append-nil, append_assoc, length, take, drop, get_or, map, nat_eq, arith, All, Bool, true, Option}
use Rattle.std.specs.Prelude.{slice_index_or}
use Rattle.std.specs.List.{AllByRecursion, Contains, sum_by}
use Rattle.std.proofs.lemmas.List.{length-map, map-append, take-map, take-append-drop, take_all}
use Rattle.std.proofs.lemmas.Bool.{eqb-true}
use Rattle.std.proofs.lemmas.List.Elements.{All-from_recursion, recursion_from_All}
use Rattle.ls_object.specs.Universe.{Structures}
use Rattle.ls_spec.specs.Specifier.{Specifier}
use Rattle.ls_spec.proofs.ListLemmas.{AllByRecursion-push, AllByRecursion-weaker, AllByRecursion-contains}
use Rattle.ls_spec.specs.Distinct.{distinct}
use Rattle.ls_lists.specs.Walks.{sum}
use Rattle.ls_lists.specs.Costs.{elements_in, table_specifiers}
use Rattle.ls_intern.specs.Places.{at, specifiers_at}
use Rattle.ls_sides.proofs.GatherLemmas.{specifiers_take}
use Rattle.ls_cells.specs.Codes.{Codes, IsKnown, HasCodes}
use Rattle.ls_cells.specs.Kept.{Entries, Grows}
use Rattle.ls_decide.specs.Answers.{TellsCost}
use Rattle.ls_decide.specs.Sessions.{element_list, Works, HasMade}
use Rattle.ls_decide.specs.steps.Learning.{AreInnerFirst, HasTaken, HasLearnt, learning_cost}
use Rattle.ls_decide.proofs.WorkLemmas.{Works-none, Works-both, Works-front, HasMade-none, HasMade-both}
use Rattle.ls_decide.proofs.LearnLemmas.{learning_cost_by, known_more, known_codes, inner_at}
use Rattle.ls_decide.proofs.EntryLemmas.{at_map}
use Rattle.ls_decide.proofs.CostLemmas.{index_at}

-- more may be behind what was there
pub grows_none : {X : Type 0} (old : List X) → Grows old old
grows_none old = record { more = []; is = sym (append-nil old) }

pub grows_both : {X : Type 0} (old mid new : List X) → Grows old mid → Grows mid new → Grows old new
grows_both old mid new f g = record { more = f.more ++ g.more; is = g.is ∙ ap (λ l. l ++ g.more) f.is ∙ append_assoc old f.more g.more }

-- nothing was learnt
pub taken_none : (structures : Structures) (known : List Specifier) (codes : Codes) (old : Entries) (n : ℕ) → HasTaken structures structures known known codes codes old old n n []
taken_none structures known codes old n = record {
  structures = refl;
  specifiers = refl;
  codes = grows_none codes;
  known = All-from_recursion (IsKnown codes) [] tt;
  works = Works-none [] old n;
  made = HasMade-none old;
}

-- one more was learnt
pub taken_more : (s s1 s2 : Structures) (k k1 k2 : List Specifier) (c c1 c2 : Codes) (old mid new : Entries) (before between now : ℕ) (xs : List Specifier) (e : Specifier)
    → HasTaken s s1 k k1 c c1 old mid before between xs → s2 ≡ s1 → k2 ≡ k1 → Grows c1 c2 → Works (element_list e ∷ []) mid new between now → IsKnown c2 e
    → HasMade (element_list e ∷ []) mid new → HasTaken s s2 k k2 c c2 old new before now (xs ++ e ∷ [])
taken_more s s1 s2 k k1 k2 c c1 c2 old mid new before between now xs e taken f g grows works here made = record {
  structures = f ∙ taken.structures;
  specifiers = g ∙ taken.specifiers;
  codes = grows_both c c1 c2 taken.codes grows;
  known = All-from_recursion (IsKnown c2) (xs ++ e ∷ [])
      (AllByRecursion-push (IsKnown c2) xs e (AllByRecursion-weaker (IsKnown c1) (IsKnown c2) (λ x h. known_more c1 c2 x grows h) xs (recursion_from_All (IsKnown c1) xs taken.known)) here);
  works = subst (λ ls. Works ls old new before now) (sym (map-append element_list xs (e ∷ []))) (Works-both (map element_list xs) (element_list e ∷ []) old mid new before between now taken.works taken.made.walked works);
  made = subst (λ ls. HasMade ls old new) (sym (map-append element_list xs (e ∷ []))) (HasMade-both (map element_list xs) (element_list e ∷ []) old mid new taken.made works.grows made);
}

-- ---- in a loop over numbers

module _ (known : List Specifier) (ids : List ℕ) (i : ℕ) where
  abbrev pub id_here : ℕ
  id_here = slice_index_or ids i 0

  abbrev pub gone : List Specifier
  gone = specifiers_at known (take i ids)

  -- what holds of all holds of the one at the place
  pub all_here : (P : Specifier → Type 0) → All P (specifiers_at known ids) → i < length ids → P (at known id_here)
  all_here P all lt = subst P (at_map (at known) ids i 0) (all i (at known 0) (let e = length-map ids (at known) in omega (arith, e, lt)))

  -- the codes of its own element types are known
  pub coded_here : (codes : Codes) → AreInnerFirst (specifiers_at known ids) → i < length ids → All (IsKnown codes) gone → HasCodes codes (at known id_here)
  coded_here codes inner lt all =
      let e = at known id_here in
      let here : get_or (specifiers_at known ids) i e ≡ e = get_or-same ids i lt in
      let front = inner_at [] (specifiers_at known ids) i e inner (let l = length-map ids (at known) in omega (arith, l, lt)) here in
      let taken : take i (specifiers_at known ids) ≡ gone = take-map (at known) i ids in
      known_codes codes e
      (AllByRecursion-weaker (Contains gone) (IsKnown codes) (λ x c. AllByRecursion-contains (IsKnown codes) gone x (recursion_from_All (IsKnown codes) gone all) c) (elements_in e)
      (subst (λ (l : List Specifier). AllByRecursion (Contains l) (elements_in e)) taken front))
    where
      get_or-same : (xs : List ℕ) (k : ℕ) → k < length xs → get_or (specifiers_at known xs) k (at known (slice_index_or xs k 0)) ≡ at known (slice_index_or xs k 0)
      get_or-same [] k l = absurd (omega (arith, l))
      get_or-same (x ∷ xs) zero l = refl
      get_or-same (x ∷ xs) (suc k) l = get_or-same xs k (omega (arith, l))

  -- with it they are those before the next place
  pub gone_more : i < length ids → specifiers_at known (take (i + 1) ids) ≡ gone ++ at known id_here ∷ []
  gone_more lt = specifiers_take known ids i id_here lt (index_at ids i lt)

  -- the first of them are followed by the others
  pub gone_front : (k : ℕ) → specifiers_at known ids ≡ specifiers_at known (take k ids) ++ specifiers_at known (drop k ids)
  gone_front k = ap (specifiers_at known) (sym (take-append-drop k ids)) ∙ map-append (at known) (take k ids) (drop k ids)

  -- behind the last place they are all
  pub gone_whole : length ids ≤ i → gone ≡ specifiers_at known ids
  gone_whole past = ap (specifiers_at known) (take_all i ids past)

-- what was made of the first of them was made of all, as far as it went
pub works_of_all : (front rest all : List Specifier) (old new : Entries) (before now : ℕ) → all ≡ front ++ rest → Works (map element_list front) old new before now → Works (map element_list all) old new before now
works_of_all front rest all old new before now is w =
    subst (λ ls. Works ls old new before now) (sym (ap (map element_list) is ∙ map-append element_list front rest)) (Works-front (map element_list front) (map element_list rest) old new before now w)

-- one more was begun
pub works_more : (front : List Specifier) (e : Specifier) (front_and : List Specifier) (old mid new : Entries) (before between now : ℕ) → front_and ≡ front ++ e ∷ [] → Works (map element_list front) old mid before between
    → HasMade (map element_list front) old mid → Works (element_list e ∷ []) mid new between now → Works (map element_list front_and) old new before now
works_more front e front_and old mid new before between now is w made one =
    subst (λ ls. Works ls old new before now) (sym (ap (map element_list) is ∙ map-append element_list front (e ∷ [])))
    (Works-both (map element_list front) (element_list e ∷ []) old mid new before between now w made.walked one)

-- ---- where there is nothing to learn, and where it is counted first

-- of no element type there is nothing to learn
pub learnt_none : (known : List Specifier) (ids : List ℕ) (budget : ℕ) (codes : Codes) (old : Entries) (b : Bool) → b ≡ nat_eq (length ids) 0 → b ≡ true → HasLearnt (specifiers_at known ids) budget codes old old
learnt_none known [] budget codes old b e f = record { within = omega arith; known = All-from_recursion (IsKnown codes) [] tt; made = HasMade-none old }
learnt_none known (i ∷ ids) budget codes old b e f = absurd (let h : suc (length ids) ≡ 0 = eqb-true (suc (length ids)) 0 (sym e ∙ f) in omega (arith, h))

-- what was kept and the element types are the same by other names
pub works_from : (list same_list : List Specifier) (old same_old new : Entries) (before now : ℕ) → same_list ≡ list → same_old ≡ old → Works (map element_list same_list) same_old new before now
    → Works (map element_list list) old new before now
works_from list same_list old same_old new before now e f w =
    subst (λ (es : Entries). Works (map element_list list) es new before now) f (subst (λ (l : List Specifier). Works (map element_list l) same_old new before now) e w)

-- what learning costs was told, over a table that was lent
pub cost_told : (lent known : List Specifier) (slice entries elements : List ℕ) (budget : ℕ) (told : Option ℕ) → lent ≡ known → slice ≡ entries → specifiers_at known entries ≡ table_specifiers
    → TellsCost budget (sum_by (λ e. sum (distinct (e ∷ specifiers_at lent slice))) (specifiers_at lent elements)) told → TellsCost budget (learning_cost (specifiers_at known elements)) told
cost_told lent known slice entries elements budget told e f are h =
    subst (λ (n : ℕ). TellsCost budget n told)
    (learning_cost_by (specifiers_at lent slice) (specifiers_at lent elements) (ap (λ (k : List Specifier). specifiers_at k slice) e ∙ ap (specifiers_at known) f ∙ are) ∙ ap (λ (k : List Specifier). learning_cost (specifiers_at k elements)) e) h
