-- Rows that are looked through one by one while they are few, and their truth values as keys where they are many.
use Rattle.std.proofs.Common.{ℕ, zero, suc, inl, inr, true≢false, ◌≡◌, ◌∙◌, ◌+◌, ◌<◌, ◌≤◌, refl, sym, ap, subst, arith, Bool, true, false, not, if◌then◌else◌, List, [], ◌∷◌, ◌++◌, take, length, length-append, get_or, All, AllPairs}
use Rattle.std.specs.Prelude.{Contains, slice_get, Some}
use Rattle.std.specs.Bool.{beq}
use Rattle.std.specs.List.{list_any}
use Rattle.std.specs.Cmp.Lexicographic.{pointwise, pointwise_decides}
use Rattle.std.specs.Cmp.{booleans_Decides}
use Rattle.std.proofs.lemmas.Bool.{cases_lt, not-false}
use Rattle.std.proofs.lemmas.List.{map-append, length-map, get_or-map, get_or-take, take-map, take_more, length-take-le}
use Rattle.std.proofs.lemmas.List.Quantifiers.{all_pairs_push}
use Rattle.std.proofs.lemmas.List.Elements.{Contains-get_or, All-push}
use Rattle.indexmap.specs.IndexSet.{IndexSet, insert_key}
use Rattle.ls_object.specs.Universe.{IsPlain}
use Rattle.ls_cells.specs.declared.rows.Row.{Row}
use Rattle.ls_cells.specs.Rows.{signs_of, origin_object, AreDifferent, HasKeysWith, Kept}
use Rattle.ls_cells.proofs.RowLemmas.{among, fresh_is}

-- the truth values of the row at a place
pub signs_there : (rows : List Row) (i : ℕ) (row : Row) (signs : List Bool) → i < length rows → row ≡ get_or rows i row → row.signs ≡ signs → get_or (signs_of rows) i signs ≡ signs
signs_there rows i row signs l at e = get_or-map (λ r. r.signs) rows i row signs l ∙ ap (λ (r : Row). r.signs) (sym at) ∙ e

-- different rows: those before a place have not its truth values
pub none_before : (rows : List Row) (i : ℕ) (signs : List Bool) → AreDifferent rows → i < length rows → get_or (signs_of rows) i signs ≡ signs → ¬ Contains (signs_of (take i rows)) signs
none_before rows i signs h l at = λ c.
    let taken : take i (signs_of rows) ≡ signs_of (take i rows) = take-map (λ (r : Row). r.signs) i rows in
    let few : length (signs_of (take i rows)) ≡ i = length-map (take i rows) (λ (r : Row). r.signs) ∙ length-take-le i rows (omega (arith, l)) in
    let low : c.0 < i = subst (λ n. c.0 < n) few c.1 in
    h c.0 i signs low (subst (λ n. i < n) (sym (length-map rows (λ (r : Row). r.signs))) l)
    (sym (get_or-take i (signs_of rows) c.0 signs low) ∙ ap (λ xs. get_or xs c.0 signs) taken ∙ c.2 ∙ sym at)

-- a row with truth values that no other has stays different from them
pub different_more : (rows : List Row) (row : Row) → AreDifferent rows → ¬ Contains (signs_of rows) row.signs → AreDifferent (rows ++ row ∷ [])
different_more rows row h none =
    subst (AllPairs (λ x y. ¬ (x ≡ y))) (sym (map-append (λ (r : Row). r.signs) rows (row ∷ [])))
    (all_pairs_push (λ x y. ¬ (x ≡ y)) (signs_of rows) row.signs h (λ k d l e. none (subst (Contains (signs_of rows)) e (Contains-get_or (signs_of rows) k d l))))

-- keys that have not these truth values get them behind them
pub key_added : (keys new : List (List Bool)) (key signs : List Bool) → key ≡ signs → ¬ Contains keys signs → new ≡ insert_key (pointwise beq) keys key → new ≡ keys ++ signs ∷ []
key_added keys new key signs e none is = by_test (list_any (pointwise beq signs) keys) refl (is ∙ ap (insert_key (pointwise beq) keys) e)
  where
    by_test : (b : Bool) → b ≡ list_any (pointwise beq signs) keys → new ≡ insert_key (pointwise beq) keys signs → new ≡ keys ++ signs ∷ []
    by_test true t f = absurd (none ((among keys signs).0 (sym t)))
    by_test false t f = f ∙ ap (λ b. if b then keys else keys ++ signs ∷ []) (sym t)

-- one key more
pub key_more : (rows : List Row) (i : ℕ) (row : Row) (keys new : List (List Bool)) (key : List Bool) → AreDifferent rows → i < length rows → row ≡ get_or rows i row → key ≡ row.signs
    → keys ≡ signs_of (take i rows) → new ≡ insert_key (pointwise beq) keys key → new ≡ signs_of (take (i + 1) rows)
key_more rows i row keys new key h l at e before is =
    let none : ¬ Contains keys row.signs = λ c. none_before rows i row.signs h l (signs_there rows i row row.signs l at refl) (subst (λ ks. Contains ks row.signs) before c) in
    let taken : take (i + 1) rows ≡ take i rows ++ row ∷ [] = take_more rows i row l ∙ ap (λ x. take i rows ++ x ∷ []) (sym at) in
    key_added keys new key row.signs e none is ∙ ap (λ ks. ks ++ row.signs ∷ []) before ∙ sym (ap signs_of taken ∙ map-append (λ (r : Row). r.signs) (take i rows) (row ∷ []))

-- rows stay kept with one more, whose truth values no other has
pub kept_more : {S : Type 0} (rows : List Row) (row : Row) (keys : IndexSet (List Bool) S) → HasKeysWith rows row.signs keys.keys → AreDifferent rows → ¬ Contains (signs_of rows) row.signs
    → All (λ r. IsPlain (origin_object r.origin.value)) rows → IsPlain (origin_object row.origin.value) → Kept (rows ++ row ∷ []) keys
kept_more rows row keys has different none unmarked is = record {
  same = λ many. has (omega (arith, many, length-append rows (row ∷ []))) ∙ sym (map-append (λ (r : Row). r.signs) rows (row ∷ []));
  different = different_more rows row different none;
  plain = All-push (λ r. IsPlain (origin_object r.origin.value)) rows row unmarked is;
}

-- ---- looking row by row

there : (xs : List (List Bool)) (i : ℕ) (q : List Bool) → i < length xs → get_or xs i q ≡ q → slice_get xs i ≡ Some q
there [] i q l e = absurd (omega arith)
there (x ∷ xs) zero q l e = ap Some e
there (x ∷ xs) (suc i) q l e = there xs i q (omega arith) e

-- the place of a row with these truth values
pub place_is : (rows : List Row) (i : ℕ) (row : Row) (signs : List Bool) (r : Bool) → i < length rows → r ≡ pointwise beq (get_or rows i row).signs signs → r ≡ true → slice_get (signs_of rows) i ≡ Some signs
place_is rows i row signs r l e t =
    there (signs_of rows) i signs (subst (λ n. i < n) (sym (length-map rows (λ (r : Row). r.signs))) l)
    (get_or-map (λ (r : Row). r.signs) rows i row signs l ∙ (pointwise_decides booleans_Decides (get_or rows i row).signs signs).0 (sym e ∙ t))

-- a row with other truth values
pub none_more : (rows : List Row) (i : ℕ) (row : Row) (signs : List Bool) (r : Bool) → i < length rows → r ≡ pointwise beq (get_or rows i row).signs signs → r ≡ false
    → ((j : ℕ) → j < i → get_or (signs_of rows) j signs ≡ signs → ⊥) → (j : ℕ) → j < i + 1 → get_or (signs_of rows) j signs ≡ signs → ⊥
none_more rows i row signs r l e f before j m at = elim (cases_lt j i) [
  | inl low ↦ before j low at
  | inr high ↦
      let last : j ≡ i = omega (arith, m, high) in
      let same : (get_or rows i row).signs ≡ signs = sym (get_or-map (λ (r : Row). r.signs) rows i row signs l) ∙ ap (λ k. get_or (signs_of rows) k signs) (sym last) ∙ at in
      true≢false (sym (e ∙ (pointwise_decides booleans_Decides (get_or rows i row).signs signs).1 same) ∙ f)
]

-- with all looked at there is none
pub none_at_all : (rows : List Row) (i : ℕ) (signs : List Bool) → length rows ≤ i → ((j : ℕ) → j < i → get_or (signs_of rows) j signs ≡ signs → ⊥) → ¬ Contains (signs_of rows) signs
none_at_all rows i signs l none = λ c.
    let low : c.0 < length rows = subst (λ n. c.0 < n) (length-map rows (λ (r : Row). r.signs)) c.1 in
    none c.0 (omega (arith, l, low)) c.2

-- ---- keys of many rows

-- a key that was added stands behind those of the rows
pub key_kept : (rows : List Row) (keys new : List (List Bool)) (key signs : List Bool) (b : Bool) → keys ≡ signs_of rows → key ≡ signs → b ≡ not (list_any (pointwise beq key) keys)
    → new ≡ insert_key (pointwise beq) keys key → b ≡ true → new ≡ signs_of rows ++ signs ∷ []
key_kept rows keys new key signs b same e added is t =
    let none : ¬ Contains (signs_of rows) signs = fresh_is keys (signs_of rows) key signs b true same e added t in
    key_added keys new key signs e (λ c. none (subst (λ ks. Contains ks signs) same c)) is ∙ ap (λ ks. ks ++ signs ∷ []) same

-- and one that was not leaves them
pub key_stays : (rows : List Row) (keys new : List (List Bool)) (key : List Bool) (b : Bool) → keys ≡ signs_of rows → b ≡ not (list_any (pointwise beq key) keys)
    → new ≡ insert_key (pointwise beq) keys key → b ≡ false → new ≡ signs_of rows
key_stays rows keys new key b same added is f =
    is ∙ ap (λ t. if t then keys else keys ++ key ∷ []) (not-false (list_any (pointwise beq key) keys) (sym added ∙ f)) ∙ same

-- the keys of all rows with one more
pub new_keys : (rows : List Row) (keys new : List (List Bool)) (key signs : List Bool) → keys ≡ signs_of rows → key ≡ signs → ¬ Contains (signs_of rows) signs
    → new ≡ insert_key (pointwise beq) keys key → new ≡ signs_of rows ++ signs ∷ []
new_keys rows keys new key signs same e none is = key_added keys new key signs e (λ c. none (subst (λ ks. Contains ks signs) same c)) is ∙ ap (λ ks. ks ++ signs ∷ []) same
