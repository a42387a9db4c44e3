-- The candidates and rows of a list from the counts of its atoms.
use Rattle.std.proofs.Common.{ℕ, min, ◌≡◌, ◌≤◌, ◌+◌, ◌*◌, ◌-◌, ◌/◌, ◌^◌, refl, sym, ◌∙◌, ap, arith, List, [], ◌∷◌, length, Bool, if◌then◌else◌}
use Rattle.std.specs.List.{count_by, sum_by, list_any, flat_map}
use Rattle.std.proofs.lemmas.List.Sums.{sum_by-cons}
use Rattle.ls_spec.specs.Specifier.{Specifier, eql_to, range_of, kind_of, structure_under, any_structure}
use Rattle.ls_spec.specs.Atoms.{atoms_of}
use Rattle.ls_spec.specs.Distinct.{distinct}
use Rattle.ls_lists.specs.Candidates.{is_predicate, is_range, is_single, is_structure, is_kind, is_string, element_of, pattern_of, element_codes, shapes, arrays, candidates_of_atoms, candidates, predicates}
use Rattle.ls_lists.specs.Walks.{rows_with, part_with}
use Rattle.ls_decide.specs.steps.Cut.{cut}
use Rattle.ls_decide.specs.steps.Weights.{weight}
use Rattle.ls_decide.proofs.CutLemmas.{cut_least, cut_times, product_is}

-- whether an atom passes a test, as a number
abbrev one : Bool → ℕ
one b = if b then 1 else 0

weight_one : (s : Specifier) → weight s ≡ 6 * one (is_range s) + 3 * one (is_single s) + one (is_structure s) + one (is_kind s)
weight_one (range_of k lo hi) = refl
weight_one (eql_to p) = refl
weight_one (structure_under name) = refl
weight_one any_structure = refl
weight_one (kind_of k) = refl
weight_one _ = refl

-- the weights of atoms together
weights_are : (atoms : List Specifier) → sum_by weight atoms ≡ 6 * count_by is_range atoms + 3 * count_by is_single atoms + count_by is_structure atoms + count_by is_kind atoms
weights_are [] = refl
weights_are (s ∷ atoms) =
    let e = weights_are atoms in
    let f = weight_one s in
    let a = sum_by-cons weight s atoms in
    let b = sum_by-cons (λ x. one (is_range x)) s atoms in
    let c = sum_by-cons (λ x. one (is_single x)) s atoms in
    let d = sum_by-cons (λ x. one (is_structure x)) s atoms in
    let g = sum_by-cons (λ x. one (is_kind x)) s atoms in
    omega arith

-- the candidates
pub candidates_from : (atoms : List Specifier) (w ar a b : ℕ) → w ≡ cut (sum_by weight atoms) → ar ≡ cut (arrays atoms) → a ≡ cut (20 + w) → b ≡ cut (a + ar) → b ≡ cut (candidates_of_atoms atoms)
unfolding candidates_of_atoms
candidates_from atoms w ar a b e f g h =
    let k = weights_are atoms in
    let n = sum_by weight atoms in
    let m = arrays atoms in
    let x : b ≡ cut (20 + n + m) = omega arith in
    x ∙ ap (λ y. cut (20 + y + m)) k ∙ ap cut (omega arith)

-- the element codes
pub codes_from : (atoms : List Specifier) (named strings n m : ℕ) → named ≡ length (distinct (flat_map element_of atoms)) → strings ≡ (if list_any is_string atoms then 3 else 0) → n ≡ min 19 named → m ≡ min 19 (n + strings) → m ≡ element_codes atoms
codes_from atoms named strings n m e f g h =
    let x : m ≡ min 19 (named + strings) = omega arith in
    x ∙ ap (λ y. min 19 (y + strings)) e ∙ ap (λ y. min 19 (length (distinct (flat_map element_of atoms)) + y)) f

-- the arrays
pub arrays_from : (atoms : List Specifier) (codes sh a b : ℕ) → codes ≡ element_codes atoms → sh ≡ cut (shapes (flat_map pattern_of atoms)) → a ≡ cut (1 + sh) → b ≡ cut (2 * (codes + 1) * a) → b ≡ cut (arrays atoms)
unfolding arrays
arrays_from atoms codes sh a b e f g h =
    let n = shapes (flat_map pattern_of atoms) in
    let c = element_codes atoms in
    let k : c ≤ 19 = omega arith in
    let l : codes ≤ 19 = omega arith in
    let x : a ≡ cut (1 + n) = omega arith in
    let y : 2 * (codes + 1) ≡ cut (2 * (codes + 1)) = omega arith in
    h ∙ product_is (2 * (codes + 1)) a (2 * (codes + 1)) (1 + n) y x ∙ ap (λ z. cut (2 * (z + 1) * (1 + n))) e

-- the rows
pub rows_from : (list atoms : List Specifier) (k n c all scale most least r pairs : ℕ) → atoms ≡ atoms_of list → k ≡ count_by is_predicate atoms → n ≡ length atoms → c ≡ cut (candidates_of_atoms atoms)
    → all ≡ cut (c + pairs) → scale ≡ cut (2 ^ k) → most ≡ cut (2 ^ (n - k)) → least ≡ min most all → r ≡ cut (scale * least) → r ≡ cut (rows_with pairs list)
rows_from list atoms k n c all scale most least r pairs e f g h i j l m o =
    let k2 : k ≡ predicates list = f ∙ ap (count_by is_predicate) e in
    let n2 : n ≡ length (atoms_of list) = g ∙ ap length e in
    let c2 : c ≡ cut (candidates list) = h ∙ ap (λ x. cut (candidates_of_atoms x)) e in
    let q = candidates list in
    let all2 : all ≡ cut (q + pairs) = omega arith in
    let t = 2 ^ (length (atoms_of list) - predicates list) in
    let most2 : most ≡ cut t = l ∙ ap (λ x. cut (2 ^ (x - k))) n2 ∙ ap (λ x. cut (2 ^ (length (atoms_of list) - x))) k2 in
    let least2 : least ≡ cut (min t (q + pairs)) = m ∙ ap (λ x. min x all) most2 ∙ ap (min (cut t)) all2 ∙ cut_least t (q + pairs) in
    let scale2 : scale ≡ cut (2 ^ predicates list) = j ∙ ap (λ x. cut (2 ^ x)) k2 in
    o ∙ product_is scale least (2 ^ predicates list) (min t (q + pairs)) scale2 least2

-- what is tried for a list
pub part_from : (list atoms : List Specifier) (k n c all scale first words r pairs : ℕ) → atoms ≡ atoms_of list → k ≡ count_by is_predicate atoms → n ≡ length atoms → c ≡ cut (candidates_of_atoms atoms)
    → all ≡ cut (c + pairs) → scale ≡ cut (2 ^ k) → first ≡ cut (scale * all) → words ≡ cut (1 + n / 64) → r ≡ cut (first * words) → r ≡ cut (part_with pairs list)
part_from list atoms k n c all scale first words r pairs e f g h i j l m o =
    let k2 : k ≡ predicates list = f ∙ ap (count_by is_predicate) e in
    let n2 : n ≡ length (atoms_of list) = g ∙ ap length e in
    let c2 : c ≡ cut (candidates list) = h ∙ ap (λ x. cut (candidates_of_atoms x)) e in
    let q = candidates list in
    let all2 : all ≡ cut (q + pairs) = omega arith in
    let scale2 : scale ≡ cut (2 ^ predicates list) = j ∙ ap (λ x. cut (2 ^ x)) k2 in
    let first2 : first ≡ cut (2 ^ predicates list * (q + pairs)) = l ∙ product_is scale all (2 ^ predicates list) (q + pairs) scale2 all2 in
    let words2 : words ≡ cut (1 + length (atoms_of list) / 64) = m ∙ ap (λ x. cut (1 + x / 64)) n2 in
    o ∙ product_is first words (2 ^ predicates list * (q + pairs)) (1 + length (atoms_of list) / 64) first2 words2

-- only the cut of the pairs matters
pub rows_cut : (list : List Specifier) (pairs : ℕ) → cut (rows_with (cut pairs) list) ≡ cut (rows_with pairs list)
rows_cut list pairs =
    let s = 2 ^ predicates list in
    let t = 2 ^ (length (atoms_of list) - predicates list) in
    let q = candidates list in
    let e : cut (min t (q + cut pairs)) ≡ cut (min t (q + pairs)) = omega arith in
    sym (cut_times s (min t (q + cut pairs))) ∙ ap (λ x. cut (cut s * x)) e ∙ cut_times s (min t (q + pairs))

pub part_cut : (list : List Specifier) (pairs : ℕ) → cut (part_with (cut pairs) list) ≡ cut (part_with pairs list)
part_cut list pairs =
    let s = 2 ^ predicates list in
    let q = candidates list in
    let w = 1 + length (atoms_of list) / 64 in
    let e : cut (q + cut pairs) ≡ cut (q + pairs) = omega arith in
    let f : cut (s * (q + cut pairs)) ≡ cut (s * (q + pairs)) = sym (cut_times s (q + cut pairs)) ∙ ap (λ x. cut (cut s * x)) e ∙ cut_times s (q + pairs) in
    sym (cut_times (s * (q + cut pairs)) w) ∙ ap (λ x. cut (x * cut w)) f ∙ cut_times (s * (q + pairs)) w
