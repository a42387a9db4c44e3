-- Columns: the values of one test at each row.
use Rattle.std.proofs.Common.{ℕ, ◌≡◌, ◌∙◌, ◌+◌, ◌<◌, ◌≤◌, sym, ap, subst, arith, Bool, true, false, ◌&&◌, ◌||◌, nat_lt, List, [], map, take, length, get_or}
use Rattle.std.specs.Prelude.{nat_le, Result, IfOk, Option, Some, None, MatchOption}
use Rattle.std.specs.List.{list_all, list_any}
use Rattle.std.proofs.lemmas.Bool.Decides.{nat_tests}
use Rattle.std.proofs.lemmas.List.{get_or-map, get_or_past, length-map}
use Rattle.std.proofs.lemmas.List.Folds.{list_all_more, list_any_more}
use Rattle.ls_cells.specs.Signs.{tabulate, at, zip_with}
use Rattle.ls_cells.specs.Formulas.{row_at}
use Rattle.ls_cells.proofs.TabulateLemmas.{length-tabulate, at-tabulate, is_tabulate, tabulate_same, zip_tabulate}

-- a column has the value of its atom at each row
pub column_is : (columns : List (List Bool)) (n i : ℕ) → i < length columns → length (get_or columns i []) ≡ n → get_or columns i [] ≡ tabulate n (λ j. at (row_at columns j) i)
unfolding row_at
column_is columns n i l e = is_tabulate (get_or columns i []) n (λ j. at (row_at columns j) i) e (λ j m. sym (get_or-map (λ c. at c j) columns i [] false l))

-- past the columns there is no true value
pub no_column : (columns : List (List Bool)) (j i : ℕ) → length columns ≤ i → at (row_at columns j) i ≡ false
unfolding row_at
no_column columns j i l = get_or_past (map (λ c. at c j) columns) i false (omega (arith, length-map columns (λ c. at c j)))

-- what is made with the values of one test is made with those of another that agrees
pub with_same_values : {E : Type 0} (r : Result (List Bool) E) (n : ℕ) (f g : ℕ → Bool) → ((j : ℕ) → j < n → f j ≡ g j) → IfOk r (λ out. out ≡ tabulate n f) → IfOk r (λ out. out ≡ tabulate n g)
with_same_values r n f g e h = subst (λ xs. IfOk r (λ out. out ≡ xs)) (tabulate_same n f g e) h

-- the interval of all places has each of them, and that of none has none
pub in_all : (n i : ℕ) → i < n → (nat_le 0 i && nat_lt i n) ≡ true
in_all n i l = grind (arith, nat_tests)

pub in_none : (i : ℕ) → (nat_le 0 i && nat_lt i 0) ≡ false
in_none i = grind (arith, nat_tests)

-- one part more
pub all_more : {X : Type 0} (n : ℕ) (p : X → ℕ → Bool) (xs : List X) (i : ℕ) (d : X) → i < length xs
    → zip_with (λ a b. a && b) (tabulate n (λ j. list_all (λ x. p x j) (take i xs))) (tabulate n (p (get_or xs i d))) ≡ tabulate n (λ j. list_all (λ x. p x j) (take (i + 1) xs))
all_more n p xs i d l = zip_tabulate (λ a b. a && b) n _ _ ∙ tabulate_same n _ _ (λ j m. sym (list_all_more (λ x. p x j) xs i d l))

pub any_more : {X : Type 0} (n : ℕ) (p : X → ℕ → Bool) (xs : List X) (i : ℕ) (d : X) → i < length xs
    → zip_with (λ a b. a || b) (tabulate n (λ j. list_any (λ x. p x j) (take i xs))) (tabulate n (p (get_or xs i d))) ≡ tabulate n (λ j. list_any (λ x. p x j) (take (i + 1) xs))
any_more n p xs i d l = zip_tabulate (λ a b. a || b) n _ _ ∙ tabulate_same n _ _ (λ j m. sym (list_any_more (λ x. p x j) xs i d l))

-- a place where one column is true and another is not, or that there is none
pub outside_is : (n : ℕ) (f g : ℕ → Bool) (xs ys : List Bool) (r : Option ℕ) → xs ≡ tabulate n f → ys ≡ tabulate n g
    → MatchOption r ((i : ℕ) → at xs i ≡ true → at ys i ≡ true) (λ i. (i < length xs) × (at xs i ≡ true) × (at ys i ≡ false))
    → MatchOption r ((j : ℕ) → j < n → f j ≡ true → g j ≡ true) (λ j. (j < n) × (f j ≡ true) × (g j ≡ false))
outside_is n f g xs ys r d e h = by_answer r h
  where
    first : (j : ℕ) → j < n → at xs j ≡ f j
    first j l = ap (λ bs. at bs j) d ∙ at-tabulate n f j l

    second : (j : ℕ) → j < n → at ys j ≡ g j
    second j l = ap (λ bs. at bs j) e ∙ at-tabulate n g j l

    by_answer : (r : Option ℕ) → MatchOption r ((i : ℕ) → at xs i ≡ true → at ys i ≡ true) (λ i. (i < length xs) × (at xs i ≡ true) × (at ys i ≡ false))
        → MatchOption r ((j : ℕ) → j < n → f j ≡ true → g j ≡ true) (λ j. (j < n) × (f j ≡ true) × (g j ≡ false))
    by_answer None all = λ j l t. sym (second j l) ∙ all j (first j l ∙ t)
    by_answer (Some i) one =
        let l : i < n = omega (arith, one.0, ap length d, length-tabulate n f) in
        (l, sym (first i l) ∙ one.1, sym (second i l) ∙ one.2)
