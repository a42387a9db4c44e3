-- Lists of truth values turned over, and turned back.
use Rattle.std.proofs.Common.{ℕ, ◌≡◌, ◌∙◌, ◌+◌, ◌<◌, sym, ap, refl, arith, Bool, false, List, [], ◌∷◌, ◌++◌, map, length, take, get_or}
use Rattle.std.specs.Prelude.{Some, slice_get, All}
use Rattle.std.specs.List.{range_with_len}
use Rattle.std.proofs.lemmas.List.{take_more, map_push, get_or-map, length-map}
use Rattle.std.proofs.lemmas.List.FromFn.{length-map-range_with_len, get_or-map-range_with_len}
use Rattle.std.proofs.lemmas.Option.{slice_get_within, get_or_from_slice_get}
use Rattle.ls_cells.specs.declared.rows.Row.{Row}
use Rattle.ls_cells.specs.Signs.{at, tabulate}
use Rattle.ls_cells.specs.Formulas.{row_at}
use Rattle.ls_cells.specs.Rows.{signs_of}
use Rattle.ls_cells.specs.Columns.{columns_of}
use Rattle.ls_cells.proofs.TabulateLemmas.{is_tabulate}

-- there are as many values at a place as lists
pub length-row_at : (lists : List (List Bool)) (j : ℕ) → length (row_at lists j) ≡ length lists
unfolding row_at
length-row_at lists j = length-map lists (λ c. at c j)

-- the truth values of one row more
pub signs_more : (rows : List Row) (i : ℕ) (row : Row) → slice_get rows i ≡ Some row → signs_of (take (i + 1) rows) ≡ signs_of (take i rows) ++ row.signs ∷ []
signs_more rows i row e =
    ap signs_of (take_more rows i row (slice_get_within rows i row e) ∙ ap (λ r. take i rows ++ r ∷ []) (get_or_from_slice_get rows i row row e)) ∙ map_push (λ r. r.signs) (take i rows) row

-- the columns are as long as there are rows
pub columns_long : (n : ℕ) (rows : List Row) (columns : List (List Bool)) → columns ≡ columns_of n rows → All (λ c. length c ≡ length rows) columns
unfolding columns_of
columns_long n rows columns e i d l =
    let within : i < n = omega (arith, ap length e, length-map-range_with_len (row_at (signs_of rows)) 0 n) in
    ap (λ cs. length (get_or cs i d)) e ∙ ap length (get_or-map-range_with_len (row_at (signs_of rows)) 0 n i i d within (omega arith))
    ∙ length-row_at (signs_of rows) i ∙ length-map rows (λ r. r.signs)

-- there are as many columns as atoms
pub columns_count : (n : ℕ) (rows : List Row) → length (columns_of n rows) ≡ n
unfolding columns_of
columns_count n rows = length-map-range_with_len (row_at (signs_of rows)) 0 n

-- the rows turned over are their columns
pub columns_are : (n k : ℕ) (rows : List Row) (lists columns : List (List Bool)) → columns ≡ map (row_at lists) (range_with_len 0 k) → lists ≡ signs_of rows → k ≡ n → columns ≡ columns_of n rows
unfolding columns_of
columns_are n k rows lists columns e f g = e ∙ ap (λ xs. map (row_at xs) (range_with_len 0 k)) f ∙ ap (λ m. map (row_at (signs_of rows)) (range_with_len 0 m)) g

at_columns : (lists : List (List Bool)) (n i j : ℕ) → i < n → at (row_at (map (row_at lists) (range_with_len 0 n)) j) i ≡ at (row_at lists i) j
unfolding row_at
at_columns lists n i j l =
    get_or-map (λ c. at c j) (map (row_at lists) (range_with_len 0 n)) i [] false (omega (arith, length-map-range_with_len (row_at lists) 0 n))
    ∙ ap (λ c. at c j) (get_or-map-range_with_len (row_at lists) 0 n i i [] l (omega arith))

at_row : (lists : List (List Bool)) (i j : ℕ) (q : List Bool) → slice_get lists j ≡ Some q → at (row_at lists i) j ≡ at q i
unfolding row_at
at_row lists i j q e =
    get_or-map (λ c. at c i) lists j q false (slice_get_within lists j q e) ∙ ap (λ c. at c i) (get_or_from_slice_get lists j q q e)

-- a row of the columns is the row that they came from
pub row_back : (n : ℕ) (rows : List Row) (columns : List (List Bool)) (j : ℕ) (q : List Bool) → columns ≡ columns_of n rows → slice_get (signs_of rows) j ≡ Some q → length q ≡ n
    → row_at columns j ≡ q
unfolding columns_of
row_back n rows columns j q e h l =
    let turned : List (List Bool) = map (row_at (signs_of rows)) (range_with_len 0 n) in
    let same : row_at turned j ≡ tabulate n (at q) =
    is_tabulate (row_at turned j) n (at q) (length-row_at turned j ∙ length-map-range_with_len (row_at (signs_of rows)) 0 n) (λ i m. at_columns (signs_of rows) n i j m ∙ at_row (signs_of rows) i j q h) in
    ap (λ cs. row_at cs j) e ∙ same ∙ sym (is_tabulate q n (at q) l (λ i m. refl))
