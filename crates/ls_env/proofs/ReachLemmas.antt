-- What the walk has seen in the end is what is reached.
use Rattle.std.proofs.Common.{◌≡◌, ℕ, ◌+◌, ◌<◌, ◌↔◌, zero, suc, inl, inr, List, [], ◌∷◌, ◌++◌, Bool, true, false, Option, Some, None, length, get_or, refl, sym, ap, subst, ◌∙◌, arith, length-append, IsTrue}
use Rattle.std.specs.Prelude.{slice_get, slice_set, ◌⊎◌}
use Rattle.std.proofs.lemmas.Bool.Decides.{eqb_tells}
use Rattle.std.proofs.lemmas.Option.{none-some, same_Some, slice_get_within, slice_get-get_or}
use Rattle.ls_env.specs.declared.walk.Seen.{Seen}
use Rattle.ls_env.specs.Reaching.{In, body, IsPath, Reaches, falses, blank, see, see_by, see_all, follow, follow_by, walk, or_false, comes_back, InRange}

-- ---- lists

same_or_not : (m n : ℕ) → (m ≡ n) ⊎ (m ≡ n → ⊥)
same_or_not m n = elim (eqb_tells m n) [ inl p ↦ inl p.1 | inr p ↦ inr p.1 ]

in_left : (b : ℕ) (xs ys : List ℕ) → In b xs → In b (xs ++ ys)
in_left b [] ys h = absurd h
in_left b (x ∷ xs) ys (inl e) = inl e
in_left b (x ∷ xs) ys (inr h) = inr (in_left b xs ys h)

in_last : (b : ℕ) (xs : List ℕ) → In b (xs ++ b ∷ [])
in_last b [] = inl refl
in_last b (x ∷ xs) = inr (in_last b xs)

in_push : (b c : ℕ) (xs : List ℕ) → In c (xs ++ b ∷ []) → In c xs ⊎ (b ≡ c)
in_push b c [] (inl e) = inr e
in_push b c [] (inr h) = absurd h
in_push b c (x ∷ xs) (inl e) = inl (inl e)
in_push b c (x ∷ xs) (inr h) = elim (in_push b c xs h) [ inl i ↦ inl (inr i) | inr e ↦ inr e ]

stands_at : (b : ℕ) (xs : List ℕ) → In b xs → (j : ℕ) × (slice_get xs j ≡ Some b)
stands_at b [] h = absurd h
stands_at b (x ∷ xs) (inl e) = (0, ap Some e)
stands_at b (x ∷ xs) (inr h) = let p = stands_at b xs h in (suc p.0, p.1)

set_same : (xs : List Bool) (i : ℕ) (x v : Bool) → slice_get xs i ≡ Some x → slice_get (slice_set xs i v) i ≡ Some v
set_same [] i x v h = cc
set_same (y ∷ ys) zero x v h = refl
set_same (y ∷ ys) (suc i) x v h = set_same ys i x v h

set_other : (xs : List Bool) (i j : ℕ) (v : Bool) → (i ≡ j → ⊥) → slice_get (slice_set xs i v) j ≡ slice_get xs j
set_other [] i j v h = refl
set_other (y ∷ ys) zero zero v h = absurd (h refl)
set_other (y ∷ ys) zero (suc j) v h = refl
set_other (y ∷ ys) (suc i) zero v h = refl
set_other (y ∷ ys) (suc i) (suc j) v h = set_other ys i j v (λ e. h (ap suc e))

abbrev blanks : List Bool → ℕ
blanks [] = 0
blanks (true ∷ bs) = blanks bs
blanks (false ∷ bs) = suc (blanks bs)

blanks_set : (xs : List Bool) (i : ℕ) → slice_get xs i ≡ Some false → suc (blanks (slice_set xs i true)) ≡ blanks xs
blanks_set [] i h = cc
blanks_set (true ∷ ys) zero h = cc
blanks_set (false ∷ ys) zero h = refl
blanks_set (true ∷ ys) (suc i) h = blanks_set ys i h
blanks_set (false ∷ ys) (suc i) h = ap suc (blanks_set ys i h)

blanks_falses : (n : ℕ) → blanks (falses n) ≡ n
blanks_falses zero = refl
blanks_falses (suc n) = ap suc (blanks_falses n)

falses_get : (n b : ℕ) → slice_get (falses n) b ≡ Some true → ⊥
falses_get zero b h = cc
falses_get (suc n) zero h = cc
falses_get (suc n) (suc b) h = falses_get n b h

falses_wide : (n b : ℕ) → b < n → slice_get (falses n) b ≡ None → ⊥
falses_wide zero b lt h = absurd (omega arith)
falses_wide (suc n) zero lt h = cc
falses_wide (suc n) (suc b) lt h = falses_wide n b (omega arith) h

-- ---- what holds at each moment of the walk

record Stands (graph : List (List ℕ)) (a : ℕ) (s : Seen) : Type 0 where
  count : blanks s.marked + length s.order ≡ length graph
  told : (b : ℕ) → slice_get s.marked b ≡ Some true → In b s.order
  kept : (b : ℕ) → In b s.order → slice_get s.marked b ≡ Some true
  wide : (b : ℕ) → b < length graph → slice_get s.marked b ≡ None → ⊥
  sound : (b : ℕ) → In b s.order → Reaches graph a b

see_stands : (graph : List (List ℕ)) (a b : ℕ) (s : Seen) (o : Option Bool) → slice_get s.marked b ≡ o
    → Reaches graph a b → Stands graph a s → Stands graph a (see_by o b s)
see_stands graph a b s None e r h = h
see_stands graph a b s (Some true) e r h = h
see_stands graph a b s (Some false) e r h = record {
  count = omega (arith, blanks_set s.marked b e, length-append s.order (b ∷ []), h.count);
  told = λ c is. elim (same_or_not b c) [
    | inl same ↦ subst (λ (x : ℕ). In x (s.order ++ b ∷ [])) same (in_last b s.order)
    | inr not ↦ in_left c s.order (b ∷ []) (h.told c (sym (set_other s.marked b c true not) ∙ is))
  ];
  kept = λ c is. elim (same_or_not b c) [
    | inl same ↦ subst (λ (x : ℕ). slice_get (slice_set s.marked b true) x ≡ Some true) same (set_same s.marked b false true e)
    | inr not ↦ set_other s.marked b c true not ∙ h.kept c (elim (in_push b c s.order is) [ inl i ↦ i | inr same ↦ absurd (not same) ])
  ];
  wide = λ c lt is. elim (same_or_not b c) [
    | inl same ↦ let k : slice_get (slice_set s.marked b true) c ≡ Some true = subst (λ (x : ℕ). slice_get (slice_set s.marked b true) x ≡ Some true) same (set_same s.marked b false true e) in cc
    | inr not ↦ h.wide c lt (sym (set_other s.marked b c true not) ∙ is)
  ];
  sound = λ c is. elim (in_push b c s.order is) [ inl i ↦ h.sound c i | inr same ↦ subst (Reaches graph a) same r ];
}

see_all_stands : (graph : List (List ℕ)) (a : ℕ) (bs : List ℕ) (s : Seen) → ((b : ℕ) → In b bs → Reaches graph a b)
    → Stands graph a s → Stands graph a (see_all bs s)
see_all_stands graph a [] s r h = h
see_all_stands graph a (b ∷ bs) s r h =
    see_all_stands graph a bs (see b s) (λ c i. r c (inr i)) (see_stands graph a b s (slice_get s.marked b) refl (r b (inl refl)) h)

-- ---- nothing is forgotten, and places stay

get_append : (xs ys : List ℕ) (j m : ℕ) → slice_get xs j ≡ Some m → slice_get (xs ++ ys) j ≡ Some m
get_append [] ys j m h = cc
get_append (x ∷ xs) ys zero m h = h
get_append (x ∷ xs) ys (suc j) m h = get_append xs ys j m h

in_from_get : (xs : List ℕ) (j m : ℕ) → slice_get xs j ≡ Some m → In m xs
in_from_get [] j m h = cc
in_from_get (x ∷ xs) zero m h = inl cc
in_from_get (x ∷ xs) (suc j) m h = inr (in_from_get xs j m h)

see_stays : (b : ℕ) (s : Seen) (o : Option Bool) (j m : ℕ) → slice_get s.order j ≡ Some m
    → slice_get (see_by o b s).order j ≡ Some m
see_stays b s None j m h = h
see_stays b s (Some true) j m h = h
see_stays b s (Some false) j m h = get_append s.order (b ∷ []) j m h

see_all_stays : (bs : List ℕ) (s : Seen) (j m : ℕ) → slice_get s.order j ≡ Some m
    → slice_get (see_all bs s).order j ≡ Some m
see_all_stays [] s j m h = h
see_all_stays (b ∷ bs) s j m h = see_all_stays bs (see b s) j m (see_stays b s (slice_get s.marked b) j m h)

see_grows : (b : ℕ) (s : Seen) (o : Option Bool) (c : ℕ) → In c s.order → In c (see_by o b s).order
see_grows b s None c h = h
see_grows b s (Some true) c h = h
see_grows b s (Some false) c h = in_left c s.order (b ∷ []) h

see_all_grows : (bs : List ℕ) (s : Seen) (c : ℕ) → In c s.order → In c (see_all bs s).order
see_all_grows [] s c h = h
see_all_grows (b ∷ bs) s c h = see_all_grows bs (see b s) c (see_grows b s (slice_get s.marked b) c h)

see_in : (graph : List (List ℕ)) (a b : ℕ) (s : Seen) (o : Option Bool) → slice_get s.marked b ≡ o → b < length graph
    → Stands graph a s → In b (see_by o b s).order
see_in graph a b s None e lt h = absurd (h.wide b lt e)
see_in graph a b s (Some true) e lt h = h.told b e
see_in graph a b s (Some false) e lt h = in_last b s.order

abbrev Known : List (List ℕ) → ℕ → List ℕ → Type 0
Known graph a bs = (b : ℕ) → In b bs → (b < length graph) × Reaches graph a b

see_all_in : (graph : List (List ℕ)) (a : ℕ) (bs : List ℕ) (s : Seen) → Known graph a bs → Stands graph a s → (c : ℕ)
    → In c bs → In c (see_all bs s).order
see_all_in graph a [] s k h c i = absurd i
see_all_in graph a (b ∷ bs) s k h c (inl e) =
    subst (λ (x : ℕ). In x (see_all bs (see b s)).order) e (see_all_grows bs (see b s) b (see_in graph a b s (slice_get s.marked b) refl (k b (inl refl)).0 h))
see_all_in graph a (b ∷ bs) s k h c (inr i) =
    see_all_in graph a bs (see b s) (λ d j. k d (inr j)) (see_stands graph a b s (slice_get s.marked b) refl (k b (inl refl)).1 h) c i

-- ---- one step of the walk

path_more : (graph : List (List ℕ)) (a x c : ℕ) (xs : List ℕ) → IsPath graph a xs x → In c (body graph x)
    → IsPath graph a (xs ++ x ∷ []) c
path_more graph a x c [] p i = (p, i)
path_more graph a x c (y ∷ ys) p i = (p.0, path_more graph y x c ys p.1 i)

known_body : (graph : List (List ℕ)) (a x : ℕ) (s : Seen) → InRange graph → Stands graph a s → In x s.order
    → Known graph a (body graph x)
known_body graph a x s range h i c j = let r = h.sound x i in (range x c j, (r.0 ++ x ∷ [], path_more graph a x c r.0 r.1 j))

follow_stands : (graph : List (List ℕ)) (a at : ℕ) (s : Seen) (o : Option ℕ) → slice_get s.order at ≡ o
    → InRange graph → Stands graph a s → Stands graph a (follow_by graph o s)
follow_stands graph a at s None e range h = h
follow_stands graph a at s (Some x) e range h =
    let k = known_body graph a x s range h (in_from_get s.order at x e) in
    see_all_stands graph a (body graph x) s (λ c i. (k c i).1) h

abbrev Closed : List (List ℕ) → Seen → ℕ → Type 0
Closed graph s at = (j m : ℕ) → j < at → slice_get s.order j ≡ Some m → (b : ℕ) → In b (body graph m) → In b s.order

follow_closed : (graph : List (List ℕ)) (a at : ℕ) (s : Seen) (o : Option ℕ) → slice_get s.order at ≡ o
    → InRange graph → Stands graph a s → Closed graph s at → Closed graph (follow_by graph o s) (at + 1)
follow_closed graph a at s None e range h closed j m lt is b i = elim (same_or_not j at) [
  | inl same ↦ absurd (none-some m (sym e ∙ subst (λ (k : ℕ). slice_get s.order k ≡ Some m) same is))
  | inr not ↦ closed j m (omega arith) is b i
]
follow_closed graph a at s (Some x) e range h closed j m lt is b i =
    let within = slice_get_within s.order at x e in
    let y = get_or s.order j 0 in
    let at_j = slice_get-get_or s.order j 0 (omega arith) in
    let there = see_all_stays (body graph x) s j y at_j in
    let same_name : m ≡ y = same_Some m y (sym is ∙ there) in
    let in_body : In b (body graph y) = subst (λ (n : ℕ). In b (body graph n)) same_name i in
    elim (same_or_not j at) [
      | inl same ↦
          let at_x : y ≡ x = same_Some y x (sym (subst (λ (k : ℕ). slice_get s.order k ≡ Some y) same at_j) ∙ e) in
          see_all_in graph a (body graph x) s (known_body graph a x s range h (in_from_get s.order at x e)) h b (subst (λ (n : ℕ). In b (body graph n)) at_x in_body)
      | inr not ↦ see_all_grows (body graph x) s b (closed j y (omega arith) at_j b in_body)
    ]

follow_grows : (graph : List (List ℕ)) (s : Seen) (o : Option ℕ) (c : ℕ) → In c s.order
    → In c (follow_by graph o s).order
follow_grows graph s None c h = h
follow_grows graph s (Some x) c h = see_all_grows (body graph x) s c h

-- ---- the whole walk

record Ends (graph : List (List ℕ)) (a : ℕ) (s t : Seen) : Type 0 where
  stands : Stands graph a t
  full : (m : ℕ) → In m t.order → (b : ℕ) → In b (body graph m) → In b t.order
  grows : (c : ℕ) → In c s.order → In c t.order

walk_ends : (graph : List (List ℕ)) (a k at : ℕ) (s : Seen) → InRange graph → Stands graph a s → Closed graph s at
    → at + k ≡ length graph → Ends graph a s (walk graph k at s)
walk_ends graph a zero at s range h closed sum = record {
  stands = h;
  full = λ m i b j. let p = stands_at m s.order i in let w = slice_get_within s.order p.0 m p.1 in
      closed p.0 m (omega (arith, w, h.count, sum)) p.1 b j;
  grows = λ c i. i;
}
walk_ends graph a (suc k) at s range h closed sum =
    let o = slice_get s.order at in
    let rest = walk_ends graph a k (at + 1) (follow graph at s) range (follow_stands graph a at s o refl range h) (follow_closed graph a at s o refl range h closed) (omega arith) in
    record { stands = rest.stands; full = rest.full; grows = λ c i. rest.grows c (follow_grows graph s o c i) }

blank_stands : (graph : List (List ℕ)) (a : ℕ) → Stands graph a (blank (length graph))
blank_stands graph a = record {
  count = omega (arith, blanks_falses (length graph));
  told = λ b h. absurd (falses_get (length graph) b h);
  kept = λ b h. absurd h;
  wide = falses_wide (length graph);
  sound = λ b h. absurd h;
}

along : (graph : List (List ℕ)) (t : Seen) → ((m : ℕ) → In m t.order → (b : ℕ) → In b (body graph m) → In b t.order)
    → (a b : ℕ) (xs : List ℕ) → ((c : ℕ) → In c (body graph a) → In c t.order) → IsPath graph a xs b → In b t.order
along graph t full a b [] from p = from b p
along graph t full a b (x ∷ xs) from p = along graph t full x b xs (full x (from x p.0)) p.1

told_true : (o : Option Bool) → or_false o ≡ true → o ≡ Some true
told_true None h = cc
told_true (Some b) h = ap Some h

pub comes_back_reaches : (graph : List (List ℕ)) (a : ℕ) → InRange graph
    → IsTrue (comes_back graph a) ↔ Reaches graph a a
unfolding comes_back
comes_back_reaches graph a range =
    let b0 = blank (length graph) in
    let known : Known graph a (body graph a) = λ c i. (range a c i, ([], i)) in
    let s = see_all (body graph a) b0 in
    let h = see_all_stands graph a (body graph a) b0 (λ c i. (known c i).1) (blank_stands graph a) in
    let e = walk_ends graph a (length graph) 0 s range h (λ j m lt is b i. absurd (omega arith)) (omega arith) in
    let t = walk graph (length graph) 0 s in
    let from : (c : ℕ) → In c (body graph a) → In c t.order = λ c i. e.grows c (see_all_in graph a (body graph a) b0 known (blank_stands graph a) c i) in (
      (λ is. e.stands.sound a (e.stands.told a (told_true (slice_get t.marked a) is))),
      (λ r. ap or_false (e.stands.kept a (along graph t e.full a a r.0 from r.1))),
    )
