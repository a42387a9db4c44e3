-- Rows that are doubled one after another, and how many that makes.
use Rattle.std.proofs.Common.{ℕ, zero, suc, ◌≡◌, ◌∙◌, ◌<◌, ◌≤◌, ◌+◌, ◌-◌, ◌*◌, ◌^◌, refl, ap, sym, subst, arith, Bool, true, false, List, [], ◌∷◌, ◌++◌, append_assoc, append-nil, length, length-append, map, take, get_or, set, Some, Contains, MatchBool}
use Rattle.std.specs.Prelude.{slice_get}
use Rattle.std.specs.List.{count_by}
use Rattle.std.proofs.Math.Nat.{pow-suc}
use Rattle.std.proofs.lemmas.List.{length-map, take_all}
use Rattle.std.proofs.lemmas.List.Sums.{count_by_more_yes, count_by_more_no, sum_by-take-le}
use Rattle.std.proofs.lemmas.Option.{slice_get-get_or}
use Rattle.ls_spec.specs.declared.spec.Spec.{Spec}
use Rattle.ls_spec.specs.Specifier.{Specifier}
use Rattle.ls_spec.specs.Meaning.{specifier}
use Rattle.ls_spec.proofs.ListLemmas.{AllByRecursion-push}
use Rattle.ls_lists.specs.Candidates.{is_predicate}
use Rattle.ls_cells.specs.declared.rows.Row.{Row}
use Rattle.ls_cells.specs.Rows.{signs_of, AreLong}
use Rattle.ls_cells.specs.steps.Marking.{IsMarked, Marks}
use Rattle.ls_cells.proofs.AddLemmas.{with_row, with_kept, with_itself}

-- none is doubled yet
pub no_marks : (place : ℕ) (rows : List Row) → Marks place 0 rows rows
no_marks place rows = record { more = []; is = sym (append-nil rows); each = tt; all = λ i row l e. absurd (omega arith) }

-- what stands at a place stands there with more behind it
here_before : {X : Type 0} (xs ys : List X) (i : ℕ) (x : X) → i < length xs → slice_get (xs ++ ys) i ≡ Some x → slice_get xs i ≡ Some x
here_before [] ys i x l e = absurd (omega arith)
here_before (y ∷ xs) ys zero x l e = e
here_before (y ∷ xs) ys (suc i) x l e = here_before xs ys i x (omega arith) e

has_place : {X : Type 0} (xs : List X) (i : ℕ) (x : X) → slice_get xs i ≡ Some x → Contains xs x
has_place [] i x e = absurd (cc)
has_place (y ∷ xs) zero x e = (0, omega arith, (let f : y ≡ x = cc in f))
has_place (y ∷ xs) (suc i) x e = let c = has_place xs i x e in (suc c.0, omega (arith, c.1), c.2)

-- no row of those that are doubled is past the rows that are there
pub marks_within : (place i n : ℕ) (old mid : List Row) → Marks place n old mid → i < length old → i < length mid
marks_within place i n old mid m l = let e = ap length m.is in let f = length-append old m.more in omega arith

-- the row at a place is as long as the others
pub long_at : (n : ℕ) (rows : List Row) (i : ℕ) (row : Row) → slice_get rows i ≡ Some row → AreLong n rows → length row.signs ≡ n
long_at n rows i row here long =
    let c = has_place rows i row here in
    ap (λ (r : Row). length r.signs) (sym c.2) ∙ long c.0 row c.1

-- one row more
pub marks_more : (place i : ℕ) (old mid new : List Row) (row marked : Row) (fresh : Bool) → i < length old → slice_get mid i ≡ Some row → IsMarked place row marked
    → MatchBool fresh (¬ Contains (signs_of mid) marked.signs) (Contains (signs_of mid) marked.signs) → new ≡ with_row fresh mid marked → Marks place i old mid → Marks place (i + 1) old new
marks_more place i old mid new row marked fresh l here is told added m = by fresh refl
  where
    first : slice_get old i ≡ Some row
    first = here_before old m.more i row l (ap (λ rows. slice_get rows i) (sym m.is) ∙ here)

    all : (j : ℕ) (r : Row) → j < i + 1 → slice_get old j ≡ Some r → Contains (signs_of new) (set r.signs place true)
    all j r lt e = near (i - j) refl
      where
        near : (d : ℕ) → i - j ≡ d → Contains (signs_of new) (set r.signs place true)
        near zero f =
            let at_i : j ≡ i = omega arith in
            let same : row ≡ r = (let g : Some row ≡ Some r = sym first ∙ ap (slice_get old) (sym at_i) ∙ e in cc) in
            subst (λ rows. Contains (signs_of rows) (set r.signs place true)) (sym added)
            (subst (Contains (signs_of (with_row fresh mid marked))) (is.signs ∙ ap (λ (x : Row). set x.signs place true) same) (with_itself fresh mid marked told))
        near (suc d) f =
            subst (λ rows. Contains (signs_of rows) (set r.signs place true)) (sym added) (with_kept fresh mid marked (set r.signs place true) (m.all j r (omega arith) e))

    by : (b : Bool) → fresh ≡ b → Marks place (i + 1) old new
    by true f = record {
      more = m.more ++ marked ∷ [];
      is = added ∙ ap (λ b. with_row b mid marked) f ∙ ap (λ rows. rows ++ marked ∷ []) m.is ∙ append_assoc old m.more (marked ∷ []);
      each = AllByRecursion-push (λ x. (r : Row) × Contains old r × IsMarked place r x) m.more marked m.each (row, has_place old i row first, is);
      all = all;
    }
    by false f = record { more = m.more; is = added ∙ ap (λ b. with_row b mid marked) f ∙ m.is; each = m.each; all = all }

-- all of them
pub marks_all : (place i n : ℕ) (old new : List Row) → n ≤ i → Marks place i old new → Marks place n old new
marks_all place i n old new l m = record { more = m.more; is = m.is; each = m.each; all = λ j row lt e. m.all j row (omega (arith, lt)) e }

-- ---- how many

doubled : (p q l : ℕ) → q ≡ 2 * p → q * l ≡ p * l + p * l
doubled p q l e = ap (λ x. x * l) e ∙ grind arith

power_le : (m n : ℕ) → m ≤ n → 2 ^ m ≤ 2 ^ n
power_le zero zero h = omega arith
power_le zero (suc n) h = let e = power_le zero n (omega arith) in let f = pow-suc 2 n in omega arith
power_le (suc m) zero h = absurd (omega arith)
power_le (suc m) (suc n) h = let e = power_le m n (omega arith) in let f = pow-suc 2 m in let g = pow-suc 2 n in omega arith

times_le : (p q l : ℕ) → p ≤ q → p * l ≤ q * l
times_le p q l h = grind arith

-- how many times the rows are there once so many atoms were looked at
abbrev pub times : ℕ → List Specifier → ℕ
times n atoms = 2 ^ count_by is_predicate (take n atoms)

-- a predicate doubles them, and another atom doesn't
pub times_yes : (atoms : List Specifier) (i l : ℕ) (d : Specifier) → i < length atoms → is_predicate (get_or atoms i d) ≡ true → times (i + 1) atoms * l ≡ times i atoms * l + times i atoms * l
times_yes atoms i l d lt e =
    let f : count_by is_predicate (take (i + 1) atoms) ≡ count_by is_predicate (take i atoms) + 1 = count_by_more_yes is_predicate atoms i d lt e in
    doubled (times i atoms) (times (i + 1) atoms) l (ap (λ n. 2 ^ n) (omega (arith, f)) ∙ pow-suc 2 (count_by is_predicate (take i atoms)) ∙ grind arith)

pub times_no : (atoms : List Specifier) (i l : ℕ) (d : Specifier) → i < length atoms → is_predicate (get_or atoms i d) ≡ false → times (i + 1) atoms * l ≡ times i atoms * l
times_no atoms i l d lt e = ap (λ n. 2 ^ n * l) (count_by_more_no is_predicate atoms i d lt e)

-- never more than all predicates make
pub times_most : (atoms : List Specifier) (i l : ℕ) → times i atoms * l ≤ 2 ^ count_by is_predicate atoms * l
times_most atoms i l = times_le (times i atoms) (2 ^ count_by is_predicate atoms) l (power_le _ _ (sum_by-take-le _ atoms i))

pub times_all : (atoms : List Specifier) (i l : ℕ) → length atoms ≤ i → times i atoms * l ≡ 2 ^ count_by is_predicate atoms * l
times_all atoms i l h = ap (λ xs. 2 ^ count_by is_predicate xs * l) (take_all i atoms h)

-- the atom at a place
pub atom_there : (atoms : List Spec) (list : List Specifier) (i : ℕ) (d : Specifier) → map specifier atoms ≡ list → i < length atoms → slice_get list i ≡ Some (get_or (map specifier atoms) i d)
atom_there atoms list i d e l =
    let n = length-map atoms specifier in
    ap (λ xs. slice_get xs i) (sym e) ∙ slice_get-get_or (map specifier atoms) i d (omega (arith, n, l))
