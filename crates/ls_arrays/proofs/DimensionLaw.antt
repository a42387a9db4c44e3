-- For any dimensions some that stand in match the same patterns.
use Rattle.std.proofs.Common.{ℕ, ◌≡◌, ◌∙◌, sym, ap, subst, refl, ◌+◌, ◌<◌, ◌≤◌, Bool, true, false, ◌==◌, List, [], ◌∷◌, ◌++◌, length, cond, inl, inr, ◌⊎◌, arith, zero, suc, Option, Some, None, replicate, drop}
use Rattle.std.specs.List.{AllByRecursion}
use Rattle.std.proofs.lemmas.Bool.Decides.{Decides-eqb}
use Rattle.ls_spec.specs.Truth.{matches_place, matches_places}
use Rattle.ls_lists.specs.Candidates.{Pattern, with_number}
use Rattle.ls_arrays.specs.steps.Representatives.{SomeOf, has, name_at, with_name, column_past, columns_from, columns, ranks_past, tuples, greatest, dimension_stand_ins, IsNameBelow, AreBelow}
use Rattle.ls_arrays.proofs.ListLemmas.{some_front, some_back, some_map, some_flat, some_weaker, true_or, false_or, true_or_false, has_one, has_append}

-- ---- one place

-- equal to the same numbers of the list
abbrev AreEqualAlike : List ℕ → ℕ → ℕ → Type 0
AreEqualAlike ns x y = AllByRecursion (λ m. (x == m) ≡ (y == m)) ns

-- equal numbers
same_itself : (ns : List ℕ) (x y : ℕ) → x ≡ y → AreEqualAlike ns x y
same_itself [] x y e = tt
same_itself (n ∷ ns) x y e = (ap (λ k. k == n) e, same_itself ns x y e)

-- numbers that differ
unequal : (m n : ℕ) → (m ≡ n → ⊥) → (m == n) ≡ false
unequal m n h = grind arith

-- a number past all, and one that is not in the list
same_fresh : (fresh y : ℕ) (ns : List ℕ) → AllByRecursion (λ n. n < fresh) ns → has ns y ≡ false → AreEqualAlike ns fresh y
same_fresh fresh y [] h k = tt
same_fresh fresh y (n ∷ ns) h k =
    let s = false_or _ _ k in
    let l : n < fresh = h.0 in
    (unequal fresh n (λ e. omega arith) ∙ sym s.0, same_fresh fresh y ns h.1 s.1)

-- some number of the list, or the fresh one, is equal to the same of its numbers
pick : (fresh y : ℕ) (ns : List ℕ) → AllByRecursion (λ n. n < fresh) ns → SomeOf (λ x. AreEqualAlike ns x y) (ns ++ fresh ∷ [])
pick fresh y ns h = elim (true_or_false (has ns y)) [
  | inl k ↦ some_front _ ns _ (some_weaker (λ m. m ≡ y) _ (λ x e. same_itself ns x y e) ns (has_one ns y k))
  | inr k ↦ some_back _ ns _ (inl (same_fresh fresh y ns h k))
]

-- ---- all places

-- two lists of numbers, each equal to the same numbers of its column
abbrev AlikeDims : List (List ℕ) → List ℕ → List ℕ → Type 0
AlikeDims [] [] [] = Unit {0}
AlikeDims (ns ∷ nss) (x ∷ xs) (y ∷ ys) = AreEqualAlike ns x y × AlikeDims nss xs ys
AlikeDims _ _ _ = ⊥

-- for any dimensions of the rank some choice is alike
tuple_law : (fresh : ℕ) (nss : List (List ℕ)) (ys : List ℕ) → length ys ≡ length nss → AllByRecursion (AllByRecursion (λ n. n < fresh)) nss → SomeOf (λ t. AlikeDims nss t ys) (tuples fresh nss)
tuple_law fresh [] [] e h = inl tt
tuple_law fresh [] (y ∷ ys) e h = absurd (omega arith)
tuple_law fresh (ns ∷ nss) [] e h = absurd (omega arith)
tuple_law fresh (ns ∷ nss) (y ∷ ys) e h =
    let rest = tuple_law fresh nss ys (omega arith) h.1 in
    some_flat (λ x. AreEqualAlike ns x y) (λ t. AlikeDims (ns ∷ nss) t (y ∷ ys)) _
    (λ x same. some_map (λ t. AlikeDims nss t ys) _ (λ t. x ∷ t) (λ t alike. (same, alike)) (tuples fresh nss) rest)
    (ns ++ fresh ∷ []) (pick fresh y ns h.0)

-- what a pattern names is in the columns
abbrev NamedAt : List ℕ → Option ℕ → Type 0
NamedAt ns None = Unit {0}
NamedAt ns (Some m) = has ns m ≡ true

-- the same of each place
abbrev Named : List (List ℕ) → List (Option ℕ) → Type 0
Named [] [] = Unit {0}
Named (ns ∷ nss) (p ∷ ps) = NamedAt ns p × Named nss ps
Named _ _ = ⊥

-- what is equal to the same numbers is equal to one of them alike
same_one : (ns : List ℕ) (m x y : ℕ) → has ns m ≡ true → AreEqualAlike ns x y → (x == m) ≡ (y == m)
same_one [] m x y h k = absurd (cc)
same_one (n ∷ ns) m x y h k = elim (true_or _ _ h) [
  | inl e ↦ subst (λ i. (x == i) ≡ (y == i)) (sym ((Decides-eqb m n).0 e)) k.0
  | inr r ↦ same_one ns m x y r k.1
]

-- and matches a place alike
same_place : (ns : List ℕ) (p : Option ℕ) (x y : ℕ) → NamedAt ns p → AreEqualAlike ns x y → matches_place p x ≡ matches_place p y
same_place ns None x y h k = refl
same_place ns (Some m) x y h k = same_one ns m x y h k

-- and matches a pattern alike
match_alike : (nss : List (List ℕ)) (ps : Pattern) (xs ys : List ℕ) → Named nss ps → AlikeDims nss xs ys → matches_places ps xs ≡ matches_places ps ys
match_alike [] [] [] [] h k = refl
match_alike [] (p ∷ ps) xs ys h k = absurd h
match_alike (ns ∷ nss) [] xs ys h k = absurd h
match_alike (ns ∷ nss) (p ∷ ps) (x ∷ xs) (y ∷ ys) h k =
    let e = same_place ns p x y h.0 k.0 in
    let r = match_alike nss ps xs ys h.1 k.1 in
    cc
match_alike [] [] [] (y ∷ ys) h k = absurd k
match_alike [] [] (x ∷ xs) ys h k = absurd k
match_alike (ns ∷ nss) (p ∷ ps) [] ys h k = absurd k
match_alike (ns ∷ nss) (p ∷ ps) (x ∷ xs) [] h k = absurd k

-- alike lists are of one length
alike_length : (nss : List (List ℕ)) (xs ys : List ℕ) → AlikeDims nss xs ys → length xs ≡ length ys
alike_length [] [] [] k = refl
alike_length (ns ∷ nss) (x ∷ xs) (y ∷ ys) k = ap suc (alike_length nss xs ys k.1)
alike_length [] [] (y ∷ ys) k = absurd k
alike_length [] (x ∷ xs) ys k = absurd k
alike_length (ns ∷ nss) [] ys k = absurd k
alike_length (ns ∷ nss) (x ∷ xs) [] k = absurd k

-- a pattern of another rank
pub match_other : (ps : Pattern) (ns : List ℕ) → (length ps ≡ length ns → ⊥) → matches_places ps ns ≡ false
match_other [] [] h = absurd (h refl)
match_other [] (n ∷ ns) h = refl
match_other (p ∷ ps) [] h = refl
match_other (p ∷ ps) (n ∷ ns) h = let e = match_other ps ns (λ f. h (ap suc f)) in grind arith

-- ---- the columns have what the patterns of the rank name

-- a list with a number more has what it had
one_keeps : (list : List ℕ) (n m : ℕ) (t : Bool) → has list m ≡ true → has (cond t list (list ++ n ∷ [])) m ≡ true
one_keeps list n m true h = h
one_keeps list n m false h = let e = has_append list n m in grind arith

-- and has that number
one_has : (list : List ℕ) (n : ℕ) (t : Bool) → has list n ≡ t → has (cond t list (list ++ n ∷ [])) n ≡ true
one_has list n true h = h
one_has list n false h = let e = has_append list n n in let f = (Decides-eqb n n).1 refl in grind arith

-- the same where there may be no number
name_keeps : (list : List ℕ) (p : Option ℕ) (m : ℕ) → has list m ≡ true → has (with_name list p) m ≡ true
name_keeps list None m h = h
name_keeps list (Some n) m h = one_keeps list n m (has list n) h

-- the same where the pattern may be of another rank
column_keeps : (list : List ℕ) (p : Option ℕ) (t : Bool) (m : ℕ) → has list m ≡ true → has (cond t (with_name list p) list) m ≡ true
column_keeps list p true m h = name_keeps list p m h
column_keeps list p false m h = h

-- the same of a whole column
past_keeps : (found : List ℕ) (rank i m : ℕ) (pss : List Pattern) → has found m ≡ true → has (column_past found rank i pss) m ≡ true
past_keeps found rank i m [] h = h
past_keeps found rank i m (ps ∷ pss) h = past_keeps (cond (length ps == rank) (with_name found (name_at i ps)) found) rank i m pss (column_keeps found (name_at i ps) (length ps == rank) m h)

-- the pattern is one of the list
abbrev In : Pattern → List Pattern → Type 0
In ps pss = SomeOf (λ q. q ≡ ps) pss

-- a pattern of the rank adds what it names
added : (found : List ℕ) (p : Option ℕ) (t : Bool) → t ≡ true → NamedAt (cond t (with_name found p) found) p
added found None t e = tt
added found (Some n) true e = one_has found n (has found n) refl
added found (Some n) false e = absurd (cc)

-- and it stays
carry : (found : List ℕ) (rank i : ℕ) (pss : List Pattern) (p : Option ℕ) → NamedAt found p → NamedAt (column_past found rank i pss) p
carry found rank i pss None h = tt
carry found rank i pss (Some m) h = past_keeps found rank i m pss h

-- so a column has what each pattern of the rank names
column_has : (found : List ℕ) (rank i : ℕ) (pss : List Pattern) (ps : Pattern) → length ps ≡ rank → In ps pss → NamedAt (column_past found rank i pss) (name_at i ps)
column_has found rank i [] ps e h = absurd h
column_has found rank i (q ∷ pss) ps e (inl is) =
    carry _ rank i pss (name_at i ps) (subst (λ r. NamedAt (cond (length r == rank) (with_name found (name_at i r)) found) (name_at i ps)) (sym is) (added found (name_at i ps) (length ps == rank) ((Decides-eqb _ _).1 e)))
column_has found rank i (q ∷ pss) ps e (inr h) = column_has (cond (length q == rank) (with_name found (name_at i q)) found) rank i pss ps e h

-- the places from one on
drop_one : (i : ℕ) (ps : Pattern) → i < length ps → drop i ps ≡ name_at i ps ∷ drop (suc i) ps
drop_one i [] l = absurd (omega arith)
drop_one zero (p ∷ ps) l = refl
drop_one (suc i) (p ∷ ps) l = drop_one i ps (omega arith)

-- those from the rank on
drop_all : (i : ℕ) (ps : Pattern) → i ≡ length ps → drop i ps ≡ []
drop_all zero [] e = refl
drop_all zero (p ∷ ps) e = absurd (omega arith)
drop_all (suc i) [] e = absurd (omega arith)
drop_all (suc i) (p ∷ ps) e = drop_all i ps (omega arith)

-- so the columns have what the pattern names
named_from : (rank i n : ℕ) (pss : List Pattern) (ps : Pattern) → length ps ≡ rank → i + n ≡ rank → In ps pss → Named (columns_from rank i n pss) (drop i ps)
named_from rank i zero pss ps e f h = subst (λ d. Named [] d) (sym (drop_all i ps (omega arith))) tt
named_from rank i (suc n) pss ps e f h =
    subst (λ d. Named (columns_from rank i (suc n) pss) d) (sym (drop_one i ps (omega arith)))
    (column_has [] rank i pss ps e h, named_from rank (suc i) n pss ps e (omega arith) h)

-- as many columns as places
length_columns : (rank i n : ℕ) (pss : List Pattern) → length (columns_from rank i n pss) ≡ n
length_columns rank i zero pss = refl
length_columns rank i (suc n) pss = ap suc (length_columns rank (suc i) n pss)

-- ---- and nothing past the bound

-- a list with one number more is below the bound
below_append : (fresh : ℕ) (ns : List ℕ) (n : ℕ) → AllByRecursion (λ m. m < fresh) ns → n < fresh → AllByRecursion (λ m. m < fresh) (ns ++ n ∷ [])
below_append fresh [] n h l = (l, tt)
below_append fresh (m ∷ ms) n h l = (h.0, below_append fresh ms n h.1 l)

-- the same where it may be there
below_one : (fresh : ℕ) (ns : List ℕ) (n : ℕ) (t : Bool) → AllByRecursion (λ m. m < fresh) ns → n < fresh → AllByRecursion (λ m. m < fresh) (cond t ns (ns ++ n ∷ []))
below_one fresh ns n true h l = h
below_one fresh ns n false h l = below_append fresh ns n h l

-- and where it may be none
below_name : (fresh : ℕ) (ns : List ℕ) (p : Option ℕ) (t : Bool) → AllByRecursion (λ m. m < fresh) ns → IsNameBelow fresh p → AllByRecursion (λ m. m < fresh) (cond t (with_name ns p) ns)
below_name fresh ns p false h l = h
below_name fresh ns None true h l = h
below_name fresh ns (Some n) true h l = below_one fresh ns n (has ns n) h l

-- what a pattern names is below the bound
name_below : (fresh i : ℕ) (ps : Pattern) → AllByRecursion (IsNameBelow fresh) ps → IsNameBelow fresh (name_at i ps)
name_below fresh i [] h = tt
name_below fresh zero (p ∷ ps) h = h.0
name_below fresh (suc i) (p ∷ ps) h = name_below fresh i ps h.1

-- so a column is
column_below : (fresh rank i : ℕ) (found : List ℕ) (pss : List Pattern) → AreBelow fresh pss → AllByRecursion (λ m. m < fresh) found → AllByRecursion (λ m. m < fresh) (column_past found rank i pss)
column_below fresh rank i found [] h k = k
column_below fresh rank i found (ps ∷ pss) h k = column_below fresh rank i (cond (length ps == rank) (with_name found (name_at i ps)) found) pss h.1 (below_name fresh found (name_at i ps) (length ps == rank) k (name_below fresh i ps h.0))

-- so all columns are
columns_below : (fresh rank i n : ℕ) (pss : List Pattern) → AreBelow fresh pss → AllByRecursion (AllByRecursion (λ m. m < fresh)) (columns_from rank i n pss)
columns_below fresh rank i zero pss h = tt
columns_below fresh rank i (suc n) pss h = (column_below fresh rank i [] pss h tt, columns_below fresh rank (suc i) n pss h)

-- ---- ranks

-- ranks that were found stay
ranks_keep : (found : List ℕ) (m : ℕ) (pss : List Pattern) → has found m ≡ true → has (ranks_past found pss) m ≡ true
ranks_keep found m [] h = h
ranks_keep found m (ps ∷ pss) h = ranks_keep (with_number found (length ps)) m pss (one_keeps found (length ps) m (has found (length ps)) h)

-- the rank of each pattern is found
rank_has : (found : List ℕ) (pss : List Pattern) (ps : Pattern) → In ps pss → has (ranks_past found pss) (length ps) ≡ true
rank_has found [] ps h = absurd h
rank_has found (q ∷ pss) ps (inl is) = ranks_keep _ (length ps) pss (subst (λ r. has (with_number found (length r)) (length ps) ≡ true) (sym is) (one_has found (length ps) (has found (length ps)) refl))
rank_has found (q ∷ pss) ps (inr h) = rank_has (with_number found (length q)) pss ps h

-- the greatest number is not below another
greatest_above : (ns : List ℕ) (n : ℕ) → has ns n ≡ true → n ≤ greatest ns
greatest_above [] n h = absurd (cc)
greatest_above (m ∷ ms) n h = elim (true_or _ _ h) [
  | inl e ↦ (let is : n ≡ m = (Decides-eqb n m).0 e in omega arith)
  | inr k ↦ (let l = greatest_above ms n k in omega arith)
]

-- so many zeros
length_replicate : (n : ℕ) → length {A = ℕ} (replicate n 0) ≡ n
length_replicate zero = refl
length_replicate (suc n) = ap suc (length_replicate n)

-- ---- the law

-- the dimensions match the same patterns of the list
abbrev pub MatchAlike : List Pattern → List ℕ → List ℕ → Type 0
MatchAlike pss xs ys = AllByRecursion (λ ps. matches_places ps xs ≡ matches_places ps ys) pss

-- what holds of each pattern of a list holds of each of another whose patterns are of it
each_in : (pss all : List Pattern) (P : List (Option ℕ) → Type 0) → ((ps : Pattern) → In ps all → P ps) → ((ps : Pattern) → In ps pss → In ps all) → AllByRecursion P pss
each_in [] all P h k = tt
each_in (ps ∷ pss) all P h k = (h ps (k ps (inl refl)), each_in pss all P h (λ q i. k q (inr i)))

-- what holds of each pattern
for_each : (pss : List Pattern) (P : List (Option ℕ) → Type 0) → ((ps : Pattern) → In ps pss → P ps) → AllByRecursion P pss
for_each pss P h = each_in pss pss P h (λ ps i. i)

-- two ranks are one or not
either_rank : (m n : ℕ) → (m ≡ n) ⊎ (m ≡ n → ⊥)
either_rank m n = elim (true_or_false (m == n)) [ inl e ↦ inl ((Decides-eqb m n).0 e) | inr e ↦ inr (λ f. let k = (Decides-eqb m n).1 f in cc) ]

-- dimensions that are alike at the columns of their rank match every pattern alike
of_rank : (pss : List Pattern) (ps : Pattern) (xs ys : List ℕ) → In ps pss → AlikeDims (columns (length ys) pss) xs ys → matches_places ps xs ≡ matches_places ps ys
of_rank pss ps xs ys i h = elim (either_rank (length ps) (length ys)) [
  | inl e ↦ match_alike (columns (length ys) pss) ps xs ys (named_from (length ys) 0 (length ys) pss ps e (omega arith) i) h
  | inr n ↦ match_other ps xs (λ e. n (e ∙ alike_length (columns (length ys) pss) xs ys h)) ∙ sym (match_other ps ys n)
]

-- for any dimensions some that stand in match the same patterns
pub dims_law : (fresh : ℕ) (pss : List Pattern) → AreBelow fresh pss → (ys : List ℕ) → SomeOf (λ xs. MatchAlike pss xs ys) (dimension_stand_ins fresh pss)
dims_law fresh pss below ys = elim (true_or_false (has (ranks_past [] pss) (length ys))) [
  | inl k ↦ inr (some_flat (λ r. r ≡ length ys) _ (λ r. tuples fresh (columns r pss))
      (λ r e. subst (λ r'. SomeOf (λ xs. MatchAlike pss xs ys) (tuples fresh (columns r' pss))) (sym e)
      (some_weaker (λ xs. AlikeDims (columns (length ys) pss) xs ys) _
      (λ xs h. for_each pss _ (λ ps i. of_rank pss ps xs ys i h))
      _ (tuple_law fresh (columns (length ys) pss) ys (sym (length_columns (length ys) 0 (length ys) pss)) (columns_below fresh (length ys) 0 (length ys) pss below))))
      _ (has_one _ (length ys) k))
  | inr k ↦ inl (for_each pss _ (λ ps i.
      let r = rank_has [] pss ps i in
      let l : length ps ≤ greatest (ranks_past [] pss) = greatest_above _ _ r in
      let m : length {A = ℕ} (replicate (greatest (ranks_past [] pss)) 0) ≡ greatest (ranks_past [] pss) = length_replicate (greatest (ranks_past [] pss)) in
      match_other ps _ (λ e. omega arith) ∙ sym (match_other ps ys (λ e. let f = ap (has (ranks_past [] pss)) e in cc))))
]
