-- How many dimensions stand in: as many as the shapes that the patterns tell apart, and one more.
use Rattle.std.proofs.Common.{ℕ, zero, suc, ◌≡◌, ◌∙◌, sym, ap, refl, ◌+◌, ◌*◌, ◌-◌, ◌<◌, Bool, true, false, ◌==◌, List, [], ◌∷◌, ◌++◌, map, length, cond, Some, None, fold, arith, length-append}
use Rattle.std.specs.Prelude.{filter}
use Rattle.std.specs.List.{flat_map, sum_by}
use Rattle.std.proofs.Math.Nat.{mul_assoc}
use Rattle.std.proofs.lemmas.List.Concat.{length-flat_map}
use Rattle.ls_spec.specs.declared.spec.DimPattern.{DimPattern}
use Rattle.ls_spec.specs.declared.spec.DimPattern.TheVariants.{Any, Places}
use Rattle.ls_lists.specs.Candidates.{Pattern, pattern_in, number_at, with_number, distinct_numbers, product_below, shapes_of_rank, shapes}
use Rattle.ls_arrays.specs.declared.atom.ArrayAtom.{ArrayAtom}
use Rattle.ls_arrays.specs.Arrays.{patterns}
use Rattle.ls_arrays.specs.steps.Representatives.{name_at, with_name, column_past, column, columns_from, columns, ranks_past, places_in, places_of, tuples, dimension_stand_ins}
use Rattle.ls_arrays.proofs.ListLemmas.{length_map, length_flat}

-- the patterns of the atoms, one atom at a time, are all of them
places_step : (d : DimPattern) (pss qss : List Pattern) → pss ≡ qss → places_in d pss ≡ pattern_in d ++ qss
places_step Any pss qss e = e
places_step (Places ps) pss qss e = ap (λ xs. ps ∷ xs) e

-- so the patterns are all of them
pub all_patterns : (atoms : List ArrayAtom) → places_of atoms ≡ patterns atoms
all_patterns [] = refl
all_patterns (a ∷ atoms) = places_step a.dims (places_of atoms) (patterns atoms) (all_patterns atoms)

-- the ranks, one pattern at a time, are all of them
ranks_all : (found : List ℕ) (pss : List Pattern) → ranks_past found pss ≡ fold with_number found (map length pss)
ranks_all found [] = refl
ranks_all found (ps ∷ pss) = ranks_all (with_number found (length ps)) pss

-- the number of a pattern at a place is added as a list of one number at most
named_as_list : (found : List ℕ) (i : ℕ) (ps : Pattern) → with_name found (name_at i ps) ≡ fold with_number found (number_at i ps)
named_as_list found i [] = refl
named_as_list found zero (None ∷ ps) = refl
named_as_list found zero (Some n ∷ ps) = refl
named_as_list found (suc i) (p ∷ ps) = named_as_list found i ps

-- adding two lists of numbers
fold_both : (found xs ys : List ℕ) → fold with_number found (xs ++ ys) ≡ fold with_number (fold with_number found xs) ys
fold_both found [] ys = refl
fold_both found (x ∷ xs) ys = fold_both (with_number found x) xs ys

-- a column, one pattern at a time, has the numbers of all patterns of the rank
column_step : (found : List ℕ) (i : ℕ) (ps : Pattern) (rest : List Pattern) (t : Bool)
    → fold with_number (cond t (with_name found (name_at i ps)) found) (flat_map (number_at i) rest) ≡ fold with_number found (flat_map (number_at i) (cond t (ps ∷ rest) rest))
column_step found i ps rest true =
    ap (λ xs. fold with_number xs (flat_map (number_at i) rest)) (named_as_list found i ps) ∙ sym (fold_both found (number_at i ps) (flat_map (number_at i) rest))
column_step found i ps rest false = refl

-- so the column has all of them
column_all : (found : List ℕ) (rank i : ℕ) (pss : List Pattern)
    → column_past found rank i pss ≡ fold with_number found (flat_map (number_at i) (filter (λ p. length p == rank) pss))
column_all found rank i [] = refl
column_all found rank i (ps ∷ pss) =
    column_all (cond (length ps == rank) (with_name found (name_at i ps)) found) rank i pss
    ∙ column_step found i ps (filter (λ p. length p == rank) pss) (length ps == rank)

-- ---- products

-- the product of one more than the length of each list
abbrev product : List (List ℕ) → ℕ
product [] = 1
product (ns ∷ nss) = (1 + length ns) * product nss

-- as many choices of a number of each column as the product
length_tuples : (fresh : ℕ) (nss : List (List ℕ)) → length (tuples fresh nss) ≡ product nss
length_tuples fresh [] = refl
length_tuples fresh (ns ∷ nss) =
    let e = length_tuples fresh nss in
    let f = length_flat (λ n. map (λ t. n ∷ t) (tuples fresh nss)) (product nss) (λ n. length_map (λ t. n ∷ t) (tuples fresh nss) ∙ e) (ns ++ fresh ∷ []) in
    let g = length-append ns (fresh ∷ []) in
    grind arith

-- the numbers that patterns name at a place, by the definition of the limit
abbrev width : ℕ → List Pattern → ℕ → ℕ
width rank pss i = 1 + length (distinct_numbers (flat_map (number_at i) (filter (λ p. length p == rank) pss)))

-- so it has as many numbers as the limit counts
width_is : (rank : ℕ) (pss : List Pattern) (i : ℕ) → 1 + length (column rank i pss) ≡ width rank pss i
width_is rank pss i = ap (λ ns. 1 + length ns) (column_all [] rank i pss)

-- a product from a place on, after that of the places before it
times : (a w b c d : ℕ) → w ≡ b → (a * b) * c ≡ d → a * (w * c) ≡ d
times a w b c d e f = ap (λ k. a * (k * c)) e ∙ sym (mul_assoc a b c) ∙ f

-- the product of the columns from a place on
product_from : (rank : ℕ) (pss : List Pattern) (i n : ℕ) → product_below i (width rank pss) * product (columns_from rank i n pss) ≡ product_below (i + n) (width rank pss)
product_from rank pss i zero = let e : i + 0 ≡ i = omega arith in rw e (grind arith)
product_from rank pss i (suc n) =
    let e : suc i + n ≡ i + suc n = omega arith in
    times (product_below i (width rank pss)) (1 + length (column rank i pss)) (width rank pss i) (product (columns_from rank (suc i) n pss)) (product_below (i + suc n) (width rank pss))
    (width_is rank pss i) (product_from rank pss (suc i) n ∙ ap (λ k. product_below k (width rank pss)) e)

-- one times a number
once : (a b : ℕ) → 1 * a ≡ b → a ≡ b
once a b e = omega arith

-- so the product of all columns is the number of shapes of the rank
product_of_rank : (rank : ℕ) (pss : List Pattern) → product (columns rank pss) ≡ shapes_of_rank rank (filter (λ p. length p == rank) pss)
product_of_rank rank pss =
    let e : 0 + rank ≡ rank = omega arith in
    once (product (columns rank pss)) (product_below rank (width rank pss)) (product_from rank pss 0 rank ∙ ap (λ k. product_below k (width rank pss)) e)

-- sums of equal numbers
fold_same : (f g : ℕ → ℕ) (xs : List ℕ) (a b : ℕ) → ((x : ℕ) → f x ≡ g x) → a ≡ b → fold (λ s x. s + f x) a xs ≡ fold (λ s x. s + g x) b xs
fold_same f g [] a b h e = e
fold_same f g (x ∷ xs) a b h e = let k = h x in fold_same f g xs (a + f x) (b + g x) h (cc (e, k))

-- as many dimensions stand in as there are shapes, and one more
pub length_dimensions : (fresh : ℕ) (pss : List Pattern) → length (dimension_stand_ins fresh pss) ≡ 1 + shapes pss
length_dimensions fresh pss =
    let named = ranks_past [] pss in
    let e = length-flat_map (λ r. tuples fresh (columns r pss)) named in
    let f = fold_same (λ r. length (tuples fresh (columns r pss))) (λ r. shapes_of_rank r (filter (λ p. length p == r) pss)) named 0 0
    (λ r. length_tuples fresh (columns r pss) ∙ product_of_rank r pss) refl in
    let g = ap (sum_by (λ r. shapes_of_rank r (filter (λ p. length p == r) pss))) (ranks_all [] pss) in
    let h : length (flat_map (λ r. tuples fresh (columns r pss)) named) ≡ shapes pss = e ∙ f ∙ g in
    omega arith

-- ---- for the code

-- the columns from a place on
pub columns_step : (rank i : ℕ) (pss : List Pattern) → i < rank → columns_from rank i (rank - i) pss ≡ column rank i pss ∷ columns_from rank (i + 1) (rank - (i + 1)) pss
columns_step rank i pss l =
    let e : rank - i ≡ suc (rank - (i + 1)) = omega arith in
    let f : suc i ≡ i + 1 = omega arith in
    rw e (ap (λ k. column rank i pss ∷ columns_from rank k (rank - (i + 1)) pss) f)
