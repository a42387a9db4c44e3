-- Lists that are gone through by number, and what they are folded to.
use Rattle.std.proofs.Common.{ℕ, zero, suc, ◌≡◌, ◌<◌, ◌≤◌, ◌+◌, refl, sym, ◌∙◌, ap, List, [], ◌∷◌, ◌++◌, append_assoc, append-nil, map, length, get_or, take, take_all, arith, Bool, true, false, ◌||◌, if◌then◌else◌, fold, filter}
use Rattle.std.specs.Prelude.{slice_index_or}
use Rattle.std.specs.List.{list_any, flat_map, sum_by}
use Rattle.std.proofs.lemmas.List.Sums.{sum_by_push}
use Rattle.std.proofs.lemmas.List.Folds.{list_any-append}
use Rattle.ls_spec.specs.Specifier.{Specifier}
use Rattle.ls_intern.specs.Places.{at, specifiers_at}
use Rattle.ls_sides.proofs.GatherLemmas.{specifiers_last, specifiers_take}

fold_append : {X Y : Type 0} (f : Y → X → Y) (z : Y) (xs ys : List X) → fold f z (xs ++ ys) ≡ fold f (fold f z xs) ys
fold_append f z [] ys = refl
fold_append f z (x ∷ xs) ys = fold_append f (f z x) xs ys

flat_append : {X Y : Type 0} (f : X → List Y) (xs ys : List X) → flat_map f (xs ++ ys) ≡ flat_map f xs ++ flat_map f ys
flat_append f [] ys = refl
flat_append f (x ∷ xs) ys = ap (λ l. f x ++ l) (flat_append f xs ys) ∙ sym (append_assoc (f x) (flat_map f xs) (flat_map f ys))

map_append : {X Y : Type 0} (f : X → Y) (xs ys : List X) → map f (xs ++ ys) ≡ map f xs ++ map f ys
map_append f [] ys = refl
map_append f (x ∷ xs) ys = ap (λ l. f x ∷ l) (map_append f xs ys)

filter_append : {X : Type 0} (p : X → Bool) (xs ys : List X) → filter p (xs ++ ys) ≡ filter p xs ++ filter p ys
filter_append p [] ys = refl
filter_append p (x ∷ xs) ys = by (p x) (filter_append p xs ys)
  where
    by : (b : Bool) → filter p (xs ++ ys) ≡ filter p xs ++ filter p ys → (if b then x ∷ filter p (xs ++ ys) else filter p (xs ++ ys)) ≡ (if b then x ∷ filter p xs else filter p xs) ++ filter p ys
    by true e = ap (λ l. x ∷ l) e
    by false e = e

-- one more of those that are gone through, as it is wanted from each
abbrev pub wants_of : {Y : Type 0} → (Specifier → List Y) → List Specifier → List ℕ → List Y
wants_of f known ids = flat_map f (specifiers_at known ids)

pub wants_of_more : {Y : Type 0} (f : Specifier → List Y) (known : List Specifier) (ids : List ℕ) (i id : ℕ) → i < length ids → id ≡ get_or ids i id
    → wants_of f known (take (i + 1) ids) ≡ wants_of f known (take i ids) ++ f (at known id)
wants_of_more f known ids i id h e =
    ap (flat_map f) (specifiers_take known ids i id h e) ∙ flat_append f (specifiers_at known (take i ids)) (at known id ∷ []) ∙ ap (λ l. wants_of f known (take i ids) ++ l) (append-nil (f (at known id)))

pub wants_of_whole : {Y : Type 0} (f : Specifier → List Y) (known : List Specifier) (ids : List ℕ) (i : ℕ) → length ids ≤ i → wants_of f known (take i ids) ≡ wants_of f known ids
wants_of_whole f known ids i h = ap (wants_of f known) (take_all i ids h)

-- a fold over the lengths of what is wanted, and over what is wanted from that
pub lengths_more : {Y Z : Type 0} (g : Z → ℕ → Z) (z : Z) (f : Specifier → List (List Y)) (known : List Specifier) (ids : List ℕ) (i id : ℕ) → i < length ids → id ≡ get_or ids i id → (old new : Z)
    → old ≡ fold g z (map length (wants_of f known (take i ids))) → new ≡ fold g old (map length (f (at known id))) → new ≡ fold g z (map length (wants_of f known (take (i + 1) ids)))
lengths_more g z f known ids i id h e old new p q =
    q ∙ ap (λ x. fold g x (map length (f (at known id)))) p ∙ sym (fold_append g z (map length (wants_of f known (take i ids))) (map length (f (at known id))))
    ∙ ap (fold g z) (sym (map_append length (wants_of f known (take i ids)) (f (at known id)))) ∙ ap (λ l. fold g z (map length l)) (sym (wants_of_more f known ids i id h e))

pub parts_more : {X Y Z : Type 0} (g : Z → Y → Z) (z : Z) (part : X → List Y) (f : Specifier → List X) (known : List Specifier) (ids : List ℕ) (i id : ℕ) → i < length ids → id ≡ get_or ids i id → (old new : Z)
    → old ≡ fold g z (flat_map part (wants_of f known (take i ids))) → new ≡ fold g old (flat_map part (f (at known id))) → new ≡ fold g z (flat_map part (wants_of f known (take (i + 1) ids)))
parts_more g z part f known ids i id h e old new p q =
    q ∙ ap (λ x. fold g x (flat_map part (f (at known id)))) p ∙ sym (fold_append g z (flat_map part (wants_of f known (take i ids))) (flat_map part (f (at known id))))
    ∙ ap (fold g z) (sym (flat_append part (wants_of f known (take i ids)) (f (at known id)))) ∙ ap (λ l. fold g z (flat_map part l)) (sym (wants_of_more f known ids i id h e))

-- one more specifier is put in where what is wanted from it passes a test
pub filter_put : {Y : Type 0} (test : Y → Bool) (f : Specifier → List Y) (known : List Specifier) (out new : List ℕ) (id : ℕ) (b : Bool)
    → filter test (f (at known id)) ≡ (if b then f (at known id) else []) → b ≡ true → new ≡ out ++ id ∷ []
    → wants_of f known new ≡ wants_of f known out ++ filter test (f (at known id))
filter_put test f known out new id b t k n =
    ap (wants_of f known) n ∙ ap (flat_map f) (specifiers_last known out id) ∙ flat_append f (specifiers_at known out) (at known id ∷ []) ∙ ap (λ l. wants_of f known out ++ l) (append-nil (f (at known id)))
    ∙ ap (λ l. wants_of f known out ++ l) (sym (t ∙ ap (λ c. if c then f (at known id) else []) k))

pub filter_skip : {Y : Type 0} (test : Y → Bool) (f : Specifier → List Y) (known : List Specifier) (out : List ℕ) (id : ℕ) (b : Bool)
    → filter test (f (at known id)) ≡ (if b then f (at known id) else []) → b ≡ false
    → wants_of f known out ≡ wants_of f known out ++ filter test (f (at known id))
filter_skip test f known out id b t k = sym (ap (λ l. wants_of f known out ++ l) (t ∙ ap (λ c. if c then f (at known id) else []) k) ∙ append-nil (wants_of f known out))

-- one more of those that are gone through
pub filter_more : {Y : Type 0} (test : Y → Bool) (f : Specifier → List Y) (known : List Specifier) (ids : List ℕ) (i id : ℕ) → i < length ids → id ≡ get_or ids i id
    → (old new : List Y) → old ≡ filter test (wants_of f known (take i ids)) → new ≡ old ++ filter test (f (at known id)) → new ≡ filter test (wants_of f known (take (i + 1) ids))
filter_more test f known ids i id h e old new w n =
    n ∙ ap (λ l. l ++ filter test (f (at known id))) w ∙ sym (filter_append test (wants_of f known (take i ids)) (f (at known id))) ∙ ap (filter test) (sym (wants_of_more f known ids i id h e))

-- a sum over those that are gone through
pub sum_more : (f : Specifier → ℕ) (known : List Specifier) (ids : List ℕ) (i id : ℕ) → i < length ids → id ≡ get_or ids i id
    → sum_by f (specifiers_at known (take (i + 1) ids)) ≡ sum_by f (specifiers_at known (take i ids)) + f (at known id)
sum_more f known ids i id h e = ap (sum_by f) (specifiers_take known ids i id h e) ∙ sum_by_push f (specifiers_at known (take i ids)) (at known id)

-- one of them passes a test, or none does
pub any_yes : (test : Specifier → Bool) (known : List Specifier) (ids : List ℕ) (i : ℕ) → i < length ids → test (at known (slice_index_or ids i 0)) ≡ true → list_any test (specifiers_at known ids) ≡ true
any_yes test known [] i h t = absurd (omega arith)
any_yes test known (x ∷ ids) zero h t = by (test (at known x)) t
  where
    by : (b : Bool) → b ≡ true → (b || list_any test (specifiers_at known ids)) ≡ true
    by true u = refl
    by false u = absurd (cc)
any_yes test known (x ∷ ids) (suc i) h t = by (test (at known x)) (any_yes test known ids i (omega arith) t)
  where
    by : (b : Bool) → list_any test (specifiers_at known ids) ≡ true → (b || list_any test (specifiers_at known ids)) ≡ true
    by true u = refl
    by false u = u

pub any_no : (test : Specifier → Bool) (known : List Specifier) (ids : List ℕ) (i id : ℕ) → i < length ids → id ≡ get_or ids i id → test (at known id) ≡ false
    → list_any test (specifiers_at known (take i ids)) ≡ false → list_any test (specifiers_at known (take (i + 1) ids)) ≡ false
any_no test known ids i id h e t u =
    ap (list_any test) (specifiers_take known ids i id h e) ∙ list_any-append test (specifiers_at known (take i ids)) (at known id ∷ [])
    ∙ (let v = u in let w = t in grind arith)
