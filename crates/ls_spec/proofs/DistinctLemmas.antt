-- The distinct specifiers of a list are those of the list, each once, in order of first occurrence.
use Rattle.std.proofs.lemmas.Bool.{cases_Bool}
use Rattle.std.proofs.Common.{◌≡◌, ap, refl, sym, subst, ◌∙◌, inl, inr, Bool, true, false, ◌||◌, if◌then◌else◌, true≢false, List, [], ◌∷◌, ◌++◌, fold, Decides, append-nil, append_assoc}
use Rattle.std.specs.List.{list_any, Contains, AllByRecursion}
use Rattle.std.proofs.lemmas.List.Folds.{Any-from_list_any, list_any-from_Any, list_any-append}
use Rattle.ls_object.proofs.SymbolLemmas.{Decides-text}
use Rattle.ls_spec.specs.Specifier.{Specifier}
use Rattle.ls_spec.specs.Keys.{key}
use Rattle.ls_spec.specs.Distinct.{same, with_new, distinct, AreDistinctPast, at_end, again, first, AreDistinctOf}
use Rattle.ls_spec.proofs.KeyLemmas.{key_told}
use Rattle.ls_spec.proofs.ListLemmas.{AllByRecursion-contains}

-- two specifiers are the same exactly where they are equal
pub Decides-same : (s t : Specifier) → Decides (same s t) (s ≡ t)
Decides-same s t = (
  λ e. (key_told s t [] [] (append-nil (key s) ∙ (Decides-text (key s) (key t)).0 e ∙ sym (append-nil (key t)))).0,
  λ e. (Decides-text (key s) (key t)).1 (ap key e),
)

-- some specifier of the list is the same exactly where the list has it
pub Decides-among : (s : Specifier) (list : List Specifier) → Decides (list_any (same s) list) (Contains list s)
Decides-among s list = (
  λ e. let some = Any-from_list_any (same s) list e in
      subst (Contains list) (sym ((Decides-same s some.1).0 some.4)) (some.0, some.2, some.3),
  λ h. list_any-from_Any (same s) list (h.0, s, h.1, h.2, (Decides-same s s).1 refl),
)

-- one more specifier may stand at either end of a list
or_swap : (a b : Bool) → (a || (b || false)) ≡ (b || a)
or_swap true true = refl
or_swap true false = refl
or_swap false true = refl
or_swap false false = refl

-- what is added behind the found is, with what was found before, the list of the distinct
distinct_past : (list found seen : List Specifier)
    → ((x : Specifier) → list_any (same x) seen ≡ list_any (same x) found)
    → (d : List Specifier) × ((fold with_new found list ≡ found ++ d) × AreDistinctPast seen list d)
distinct_past [] found seen h = ([], (sym (append-nil found), at_end))
distinct_past (s ∷ ss) found seen h = elim (cases_Bool (list_any (same s) found)) [
  | inl there ↦ (let rest = distinct_past ss found seen h in (
    rest.0,
    (
      subst (λ b. fold with_new (if b then found else found ++ s ∷ []) ss ≡ found ++ rest.0) (sym there) rest.1.0,
      again ((Decides-among s seen).0 (h s ∙ there)) rest.1.1,
    ),
  ))
  | inr new ↦ (let rest = distinct_past ss (found ++ s ∷ []) (s ∷ seen) (λ x. ap (λ b. same x s || b) (h x) ∙ sym (list_any-append (same x) found (s ∷ []) ∙ or_swap (list_any (same x) found) (same x s))) in (
    s ∷ rest.0,
    (
      subst (λ b. fold with_new (if b then found else found ++ s ∷ []) ss ≡ found ++ (s ∷ rest.0)) (sym new) (rest.1.0 ∙ append_assoc found (s ∷ []) rest.0),
      first (λ c. true≢false (sym ((Decides-among s seen).1 c) ∙ h s ∙ new)) rest.1.1,
    ),
  ))
]

-- the distinct specifiers of a list are each of its elements once, in order of first occurrence
pub AreDistinctOf-distinct : (list : List Specifier) → AreDistinctOf list (distinct list)
AreDistinctOf-distinct list =
    let all = distinct_past list [] [] (λ x. refl) in
    subst (AreDistinctOf list) (sym all.1.0) all.1.1

-- what holds of the distinct elements of a list, and of those before it, holds of the list
all_past : {X : Type 0} (P : X → Type 0) (seen list found : List X)
    → AreDistinctPast seen list found → AllByRecursion P seen → AllByRecursion P found → AllByRecursion P list
all_past P seen [] found at_end s h = tt
all_past P seen (x ∷ list) found (again c more) s h = (AllByRecursion-contains P seen x s c, all_past P seen list found more s h)
all_past P seen (x ∷ list) (y ∷ found) (first n more) s h = (h.0, all_past P (x ∷ seen) list found more (h.0, s) h.1)

-- what holds of a list holds of its distinct elements past others
distinct_all_past : {X : Type 0} (P : X → Type 0) (seen list found : List X)
    → AreDistinctPast seen list found → AllByRecursion P list → AllByRecursion P found
distinct_all_past P seen [] found at_end h = tt
distinct_all_past P seen (x ∷ list) found (again c more) h = distinct_all_past P seen list found more h.1
distinct_all_past P seen (x ∷ list) (y ∷ found) (first n more) h = (h.0, distinct_all_past P (x ∷ seen) list found more h.1)

-- what holds of the distinct specifiers of a list holds of the list
pub all_from_distinct : (P : Specifier → Type 0) (list : List Specifier) → AllByRecursion P (distinct list) → AllByRecursion P list
all_from_distinct P list h = all_past P [] list (distinct list) (AreDistinctOf-distinct list) tt h

-- what holds of a list of specifiers holds of its distinct ones
pub all_of_distinct : (P : Specifier → Type 0) (list : List Specifier) → AllByRecursion P list → AllByRecursion P (distinct list)
all_of_distinct P list h = distinct_all_past P [] list (distinct list) (AreDistinctOf-distinct list) h
