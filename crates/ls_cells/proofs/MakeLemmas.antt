-- The rows of a list from those of the flat objects and those of the conses.
use Rattle.std.proofs.Common.{ℕ, zero, suc, ◌≡◌, ◌≤◌, ◌+◌, ◌*◌, ◌-◌, ◌/◌, ◌^◌, min, refl, sym, ◌∙◌, ap, subst, arith, List, [], ◌∷◌, length, map, Bool, true, false, IsTrue, ◌||◌, None, Some, All}
use Rattle.std.specs.List.{AllByRecursion, flat_map, count_by, Contains}
use Rattle.std.proofs.lemmas.List.{length-map}
use Rattle.std.proofs.lemmas.List.Elements.{All-nil}
use Rattle.ls_object.specs.Universe.{LispObject, node, number, character, symbol, pair, array, structure, opaque, Structures, IsObject}
use Rattle.ls_object.specs.declared.table.Code.{Code}
use Rattle.ls_spec.specs.declared.spec.Spec.{Spec}
use Rattle.ls_spec.specs.Specifier.{Specifier, cons_of}
use Rattle.ls_spec.specs.Meaning.{specifier}
use Rattle.ls_spec.specs.Atoms.{atoms_of}
use Rattle.ls_spec.specs.Truth.{Learnt, IsLearnt}
use Rattle.ls_spec.proofs.DistinctLemmas.{all_of_distinct, all_from_distinct}
use Rattle.ls_spec.proofs.ListLemmas.{AllByRecursion-append}
use Rattle.ls_spec.proofs.AlikeLemmas.{AllByRecursion-front, AllByRecursion-back}
use Rattle.ls_lists.specs.Sides.{car_of, cdr_of, cars_of, cdrs_of}
use Rattle.ls_lists.specs.Candidates.{is_predicate, candidates_of_atoms, candidates, predicates}
use Rattle.ls_lists.specs.Walks.{rows_with, rows, part, is_none, among}
use Rattle.ls_lists.proofs.RowLemmas.{rows_none, rows_some, part_is}
use Rattle.ls_points.specs.Classes.{IsFitAtomOf}
use Rattle.ls_points.specs.Members.{IsFitIn}
use Rattle.ls_intern.specs.Places.{at, specifiers_at}
use Rattle.ls_memo.specs.Kept.{kept_for}
use Rattle.ls_cells.specs.declared.rows.Row.{Row}
use Rattle.ls_cells.specs.declared.cells.Cells.{Cells}
use Rattle.ls_cells.specs.Rows.{signs_of}
use Rattle.ls_cells.specs.Cells.{signs_at, bare, HasObject, AreBareRowsOf, AreRowsOf, AddsRows, IsCons, IsNoCons}
use Rattle.ls_cells.specs.Codes.{codes_of, HasCodes}
use Rattle.ls_cells.specs.Kept.{lists, entries_of, AreCellsOf}
use Rattle.ls_cells.specs.steps.Filling.{MayMake}
use Rattle.ls_cells.proofs.DescentLemmas.{fit_atoms, codes_atoms, learnt_cars, learnt_cdrs, learnt_by, codes_are_all}
use Rattle.ls_cells.proofs.EntryLemmas.{not_kept, cells_kept}

-- rows of all objects but conses, and then those of the conses, are the rows of all, marks left out
pub rows_of_all : (structures : Structures) (learnt : Learnt) (atoms : List Specifier) (flat all : List Row) → AddsRows structures learnt atoms IsNoCons [] flat → AddsRows structures learnt atoms IsCons flat all → AreBareRowsOf structures learnt atoms all
rows_of_all structures learnt atoms flat all first second = record { each = second.each (first.each (All-nil (HasObject structures learnt atoms))); all = by }
  where
    by : (o : LispObject) → IsObject structures o → Contains (signs_of all) (signs_at learnt atoms (bare o))
    by (node marks (pair car cdr)) h = second.all (node marks (pair car cdr)) h tt
    by (node marks (number n d)) h = second.kept _ (first.all (node marks (number n d)) h tt)
    by (node marks (character c)) h = second.kept _ (first.all (node marks (character c)) h tt)
    by (node marks (symbol s)) h = second.kept _ (first.all (node marks (symbol s)) h tt)
    by (node marks (array code simple dims)) h = second.kept _ (first.all (node marks (array code simple dims)) h tt)
    by (node marks (structure s)) h = second.kept _ (first.all (node marks (structure s)) h tt)
    by (node marks (opaque k)) h = second.kept _ (first.all (node marks (opaque k)) h tt)

-- a row has a truth value for each atom
pub rows_wide : (structures : Structures) (learnt : Learnt) (atoms : List Specifier) (found : List Row) → AreRowsOf structures learnt atoms found → All (λ r. length r.signs ≡ length atoms) found
rows_wide structures learnt atoms found are k d lt = let h = are.each k d lt in ap length h.signs ∙ length-map atoms _

-- there is a row, since a character is an object
rows_there : (structures : Structures) (learnt : Learnt) (atoms : List Specifier) (found : List Row) → AreRowsOf structures learnt atoms found → 1 ≤ length found
rows_there structures learnt atoms found are =
    let h = (are.all (node [] (character 97)) (tt, refl)).1 in
    let e = length-map found (λ (r : Row). r.signs) in omega arith

times_some : (a b : ℕ) → 1 ≤ a → 1 ≤ b → 1 ≤ a * b
times_some (suc a) (suc b) h k = omega arith
times_some zero b h k = absurd (omega arith)
times_some (suc a) zero h k = absurd (omega arith)

power_some : (n : ℕ) → 1 ≤ 2 ^ n
power_some zero = omega arith
power_some (suc n) = let h = power_some n in omega arith

times_more : (a b c d : ℕ) → a ≤ c → b ≤ d → a * b ≤ c * d
times_more a b c d h k = grind arith

candidates_some : (list : List Specifier) → 1 ≤ candidates list
unfolding candidates_of_atoms
candidates_some list = omega arith

-- every list may have a row
rows_positive : (list : List Specifier) → 1 ≤ rows list
rows_positive list = by (is_none list) refl
  where
    some : (pairs : ℕ) → 1 ≤ rows_with pairs list
    some pairs =
        let p = power_some (predicates list) in
        let q = power_some (length (atoms_of list) - predicates list) in
        let r = candidates_some list in
        times_some (2 ^ predicates list) (min (2 ^ (length (atoms_of list) - predicates list)) (candidates list + pairs)) p (omega arith)

    by : (b : Bool) → is_none list ≡ b → 1 ≤ rows list
    by true e = let f = rows_none list e in omega arith
    by false e = let f = rows_some list e in let g = some (rows (cars_of list) * rows (cdrs_of list)) in omega arith

-- so there is room for a pair
pub pair_some : (list : List Specifier) → 1 ≤ rows (cars_of list) * rows (cdrs_of list)
pair_some list = times_some _ _ (rows_positive (cars_of list)) (rows_positive (cdrs_of list))

pub pairs_most : (list : List Specifier) (m n : ℕ) → m ≤ rows (cars_of list) → n ≤ rows (cdrs_of list) → m * n ≤ rows (cars_of list) * rows (cdrs_of list)
pairs_most list m n h k = times_more m n _ _ h k

scaled : (a c : ℕ) → 1 ≤ c → a ≤ a * c
scaled a (suc c) h = grind arith
scaled a zero h = absurd (omega arith)

-- what is tried for a list, at least its candidates and pairs with all truth values of its predicates
pub part_enough : (list : List Specifier) → 2 ^ predicates list * (candidates list + rows (cars_of list) * rows (cdrs_of list)) ≤ part list
part_enough list =
    subst (λ n. 2 ^ predicates list * (candidates list + rows (cars_of list) * rows (cdrs_of list)) ≤ n) (sym (part_is list))
    (scaled (2 ^ predicates list * (candidates list + rows (cars_of list) * rows (cdrs_of list))) (1 + length (atoms_of list) / 64) (omega arith))

-- the steps of the rows of objects without marks of their own, and those of the others behind them
pub marked_most : (k x s0 s2 s3 l : ℕ) → s2 ≤ s0 + x → l + s0 ≤ s2 → s3 + l ≤ s2 + 2 ^ k * l → s3 ≤ s0 + 2 ^ k * x
marked_most k x s0 s2 s3 l within made marks = by (2 ^ k) (power_some k) marks
  where
    by : (q : ℕ) → 1 ≤ q → s3 + l ≤ s2 + q * l → s3 ≤ s0 + q * x
    by zero h e = absurd (omega arith)
    by (suc r) h e =
        let f : r * l ≤ r * x = times_more r l r x (omega arith) (omega arith) in
        let g : suc r * l ≡ r * l + l = grind arith in
        let m : suc r * x ≡ r * x + x = grind arith in
        omega (arith, e, f, g, m, within, made)

-- the predicates among the atoms as they are handed on
pub marked_count : (known list : List Specifier) (ids : List ℕ) (specs shown : List Spec) (x y l : ℕ) → shown ≡ specs → map specifier specs ≡ specifiers_at known ids → specifiers_at known ids ≡ atoms_of list
    → x + l ≤ y + 2 ^ count_by is_predicate (map specifier shown) * l → x + l ≤ y + 2 ^ predicates list * l
marked_count known list ids specs shown x y l d e f h = subst (λ xs. x + l ≤ y + 2 ^ count_by is_predicate xs * l) (ap (map specifier) d ∙ e ∙ f) h

pub as_many : (known : List Specifier) (ids : List ℕ) (specs : List Spec) → map specifier specs ≡ specifiers_at known ids → length specs ≡ length ids
as_many known ids specs e = omega (arith, ap length e, length-map specs specifier, length-map ids (at known))

-- without the others they are within the same
pub bare_most : (k x s0 s2 : ℕ) → s2 ≤ s0 + x → s2 ≤ s0 + 2 ^ k * x
bare_most k x s0 s2 within = let e = times_more 1 x (2 ^ k) x (power_some k) (omega arith) in omega (arith, e, within)

-- where no atom has a cdr, none has a car
abbrev Never : Specifier → Type 0
Never s = ⊥

nothing_is : (list : List Specifier) → AllByRecursion Never list → is_none list ≡ true
nothing_is [] h = refl
nothing_is (s ∷ list) h = absurd h.0

nothing_from : (list : List Specifier) → is_none list ≡ true → AllByRecursion Never list
nothing_from [] h = tt
nothing_from (s ∷ list) h = absurd (let k : false ≡ true = h in cc)

car_never : (s : Specifier) → AllByRecursion Never (cdr_of s) → AllByRecursion Never (car_of s)
car_never (cons_of a b) h = absurd h.0
car_never _ h = tt

cars_never : (atoms : List Specifier) → AllByRecursion Never (flat_map cdr_of atoms) → AllByRecursion Never (flat_map car_of atoms)
cars_never [] h = tt
cars_never (s ∷ atoms) h =
    AllByRecursion-append Never (car_of s) (flat_map car_of atoms) (car_never s (AllByRecursion-front Never (cdr_of s) (flat_map cdr_of atoms) h))
    (cars_never atoms (AllByRecursion-back Never (cdr_of s) (flat_map cdr_of atoms) h))

pub no_cars : (list : List Specifier) → is_none (cdrs_of list) ≡ true → is_none (cars_of list) ≡ true
unfolding cars_of cdrs_of
no_cars list e =
    nothing_is _ (all_of_distinct Never (flat_map car_of (atoms_of list)) (cars_never (atoms_of list) (all_from_distinct Never (flat_map cdr_of (atoms_of list)) (nothing_from _ e))))

or_first : (b c : Bool) → IsTrue (b || c) → c ≡ false → b ≡ true
or_first true c h e = refl
or_first false c h e = absurd (cc)

-- nothing is kept for the cars, or for the cdrs, only where there are none
pub cars_none : (structures : Structures) (known list : List Specifier) (atoms cars cdrs : List ℕ) (codes : List (List ℕ × Code)) (memo : List (List ℕ × Cells)) → MayMake structures known list atoms cars cdrs codes memo → kept_for cars memo ≡ None → is_none (cars_of list) ≡ true
cars_none structures known list atoms cars cdrs codes memo m e =
    let f = not_kept structures known m.distinct cars memo m.sides.cars_below m.kept.each e in
    or_first (is_none (cars_of list)) _ m.cars_done (subst (λ l. among l (lists (entries_of known memo)) ≡ false) m.sides.cars_are f)

pub cdrs_none : (structures : Structures) (known list : List Specifier) (atoms cars cdrs : List ℕ) (codes : List (List ℕ × Code)) (memo : List (List ℕ × Cells)) → MayMake structures known list atoms cars cdrs codes memo → kept_for cdrs memo ≡ None → is_none (cars_of list) ≡ true
cdrs_none structures known list atoms cars cdrs codes memo m e =
    let f = not_kept structures known m.distinct cdrs memo m.sides.cdrs_below m.kept.each e in
    no_cars list (or_first (is_none (cdrs_of list)) _ m.cdrs_done (subst (λ l. among l (lists (entries_of known memo)) ≡ false) m.sides.cdrs_are f))

-- what is kept for them are their cells
pub cars_cells : (structures : Structures) (known list : List Specifier) (atoms cars cdrs : List ℕ) (codes : List (List ℕ × Code)) (memo : List (List ℕ × Cells)) (cells : Cells) → MayMake structures known list atoms cars cdrs codes memo → kept_for cars memo ≡ Some cells → AreCellsOf structures known (cars_of list) cells
cars_cells structures known list atoms cars cdrs codes memo cells m e =
    subst (λ l. AreCellsOf structures known l cells) m.sides.cars_are (cells_kept structures known cars memo cells m.kept.each e)

pub cdrs_cells : (structures : Structures) (known list : List Specifier) (atoms cars cdrs : List ℕ) (codes : List (List ℕ × Code)) (memo : List (List ℕ × Cells)) (cells : Cells) → MayMake structures known list atoms cars cdrs codes memo → kept_for cdrs memo ≡ Some cells → AreCellsOf structures known (cdrs_of list) cells
cdrs_cells structures known list atoms cars cdrs codes memo cells m e =
    subst (λ l. AreCellsOf structures known l cells) m.sides.cdrs_are (cells_kept structures known cdrs memo cells m.kept.each e)

-- the pairs of rows are no more than the list may have
pub cells_most : (structures : Structures) (known list : List Specifier) (one two : Cells) → AreCellsOf structures known (cars_of list) one → AreCellsOf structures known (cdrs_of list) two → length one.rows * length two.rows ≤ rows (cars_of list) * rows (cdrs_of list)
cells_most structures known list one two first second = pairs_most list _ _ first.right.few second.right.few

-- the rows of the conses of a list, from cells of its cars and cells of its cdrs
pub adds_pairs : (structures : Structures) (learnt : Learnt) (known list : List Specifier) (atoms cars cdrs : List ℕ) (codes : List (List ℕ × Code)) (memo : List (List ℕ × Cells)) (one two : Cells) (old new : List Row) → MayMake structures known list atoms cars cdrs codes memo
    → AreCellsOf structures known (cars_of list) one → AreCellsOf structures known (cdrs_of list) two → All (IsLearnt structures learnt) (atoms_of list)
    → (specifiers_at known atoms ≡ atoms_of list → specifiers_at known one.atoms ≡ atoms_of (cars_of list) → specifiers_at known two.atoms ≡ atoms_of (cdrs_of list)
    → AreRowsOf structures learnt (atoms_of (cars_of list)) one.rows → AreRowsOf structures learnt (atoms_of (cdrs_of list)) two.rows → AddsRows structures learnt (atoms_of list) IsCons old new)
    → AddsRows structures learnt (atoms_of list) IsCons old new
adds_pairs structures learnt known list atoms cars cdrs codes memo one two old new m first second l f =
    f m.sides.atoms_are first.atoms_are second.atoms_are (first.right.are learnt (learnt_cars structures learnt list l)) (second.right.are learnt (learnt_cdrs structures learnt list l))

unmapped : (P : Specifier → Type 0) (specs : List Spec) → AllByRecursion P (map specifier specs) → AllByRecursion (λ x. P (specifier x)) specs
unmapped P [] h = tt
unmapped P (x ∷ specs) h = (h.0, unmapped P specs h.1)

-- the atoms as they are handed on
pub atoms_fit : (structures : Structures) (known list : List Specifier) (atoms cars cdrs : List ℕ) (codes : List (List ℕ × Code)) (memo : List (List ℕ × Cells)) (specs : List Spec) → MayMake structures known list atoms cars cdrs codes memo → map specifier specs ≡ specifiers_at known atoms → AllByRecursion (IsFitIn structures) specs
atoms_fit structures known list atoms cars cdrs codes memo specs m e =
    unmapped (IsFitAtomOf structures) specs (subst (AllByRecursion (IsFitAtomOf structures)) (sym (e ∙ m.sides.atoms_are)) (fit_atoms structures list m.fit))

pub atoms_coded : (structures : Structures) (known list : List Specifier) (atoms cars cdrs : List ℕ) (codes : List (List ℕ × Code)) (memo : List (List ℕ × Cells)) → MayMake structures known list atoms cars cdrs codes memo → All (HasCodes (codes_of known codes)) (specifiers_at known atoms)
atoms_coded structures known list atoms cars cdrs codes memo m = subst (All (HasCodes (codes_of known codes))) (sym m.sides.atoms_are) (codes_atoms (codes_of known codes) list m.learnt)

-- the rows that are made of a list are right where what was learnt is what the codes that the store has learnt say
made_right : (structures : Structures) (known list : List Specifier) (atoms cars cdrs : List ℕ) (codes : List (List ℕ × Code)) (memo : List (List ℕ × Cells)) (found : List Row) → MayMake structures known list atoms cars cdrs codes memo
    → ((learnt : Learnt) → All (IsLearnt structures learnt) (atoms_of list) → AreRowsOf structures learnt (atoms_of list) found) → AreRowsOf structures (learnt_by structures (codes_of known codes)) (atoms_of list) found
made_right structures known list atoms cars cdrs codes memo found m f =
    f (learnt_by structures (codes_of known codes)) (codes_are_all structures (codes_of known codes) (atoms_of list) m.right.right m.kept.order (codes_atoms (codes_of known codes) list m.learnt))

-- right rows of a list are as wide as its atoms
pub made_wide : (structures : Structures) (known list : List Specifier) (atoms cars cdrs : List ℕ) (codes : List (List ℕ × Code)) (memo : List (List ℕ × Cells)) (found : List Row) → MayMake structures known list atoms cars cdrs codes memo
    → ((learnt : Learnt) → All (IsLearnt structures learnt) (atoms_of list) → AreRowsOf structures learnt (atoms_of list) found) → All (λ r. length r.signs ≡ length (atoms_of list)) found
made_wide structures known list atoms cars cdrs codes memo found m f =
    rows_wide structures (learnt_by structures (codes_of known codes)) (atoms_of list) found (made_right structures known list atoms cars cdrs codes memo found m f)

-- and there is at least one
pub made_some : (structures : Structures) (known list : List Specifier) (atoms cars cdrs : List ℕ) (codes : List (List ℕ × Code)) (memo : List (List ℕ × Cells)) (found : List Row) → MayMake structures known list atoms cars cdrs codes memo
    → ((learnt : Learnt) → All (IsLearnt structures learnt) (atoms_of list) → AreRowsOf structures learnt (atoms_of list) found) → 1 ≤ length found
made_some structures known list atoms cars cdrs codes memo found m f =
    rows_there structures (learnt_by structures (codes_of known codes)) (atoms_of list) found (made_right structures known list atoms cars cdrs codes memo found m f)

-- the steps of the flat objects, and those of the conses behind them
pub flat_most : (known list : List Specifier) (atoms : List ℕ) (specs : List Spec) (s0 s1 : ℕ) → specifiers_at known atoms ≡ atoms_of list → map specifier specs ≡ specifiers_at known atoms → s1 ≤ s0 + candidates_of_atoms (map specifier specs) → s1 ≤ s0 + candidates list
flat_most known list atoms specs s0 s1 e f h = subst (λ l. s1 ≤ s0 + candidates_of_atoms l) (f ∙ e) h

-- the rows of the flat objects
pub flat_rows : (structures : Structures) (learnt : Learnt) (known list : List Specifier) (atoms : List ℕ) (specs : List Spec) (old new : List Row) → specifiers_at known atoms ≡ atoms_of list → map specifier specs ≡ specifiers_at known atoms → All (IsLearnt structures learnt) (atoms_of list)
    → (All (IsLearnt structures learnt) (map specifier specs) → AddsRows structures learnt (map specifier specs) IsNoCons old new) → AddsRows structures learnt (atoms_of list) IsNoCons old new
flat_rows structures learnt known list atoms specs old new e f l g =
    subst (λ x. AddsRows structures learnt x IsNoCons old new) (f ∙ e) (g (subst (All (IsLearnt structures learnt)) (sym (f ∙ e)) l))

-- how many atoms there are
pub atoms_count : (structures : Structures) (known list : List Specifier) (atoms cars cdrs shown : List ℕ) (codes : List (List ℕ × Code)) (memo : List (List ℕ × Cells)) (n : ℕ) → MayMake structures known list atoms cars cdrs codes memo → shown ≡ atoms → n ≡ length shown → length (atoms_of list) ≡ n
atoms_count structures known list atoms cars cdrs shown codes memo n m e f =
    ap length (sym m.sides.atoms_are) ∙ length-map atoms (at known) ∙ ap length (sym e) ∙ sym f

-- the pairs of rows that are kept for the cars and for the cdrs
pub pairs_within : (structures : Structures) (known list : List Specifier) (atoms cars cdrs : List ℕ) (codes : List (List ℕ × Code)) (memo : List (List ℕ × Cells)) (one two : Cells) → MayMake structures known list atoms cars cdrs codes memo → kept_for cars memo ≡ Some one → kept_for cdrs memo ≡ Some two → length one.rows * length two.rows ≤ rows (cars_of list) * rows (cdrs_of list)
pairs_within structures known list atoms cars cdrs codes memo one two m e f =
    cells_most structures known list one two (cars_cells structures known list atoms cars cdrs codes memo one m e) (cdrs_cells structures known list atoms cars cdrs codes memo two m f)
