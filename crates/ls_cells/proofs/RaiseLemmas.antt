-- Lists turned over by putting each true value where it belongs.
use Rattle.std.proofs.Common.{ℕ, ◌≡◌, ◌≢◌, ◌∙◌, ◌+◌, ◌*◌, ◌/◌, ◌<◌, ◌≤◌, ◌⊎◌, inl, inr, refl, ap, sym, arith, Bool, true, false, ◌&&◌, ◌||◌, ◌==◌, nat_lt, List, [], length, map, get_or, set, All}
use Rattle.std.specs.Prelude.{nat_le, Some, slice_get}
use Rattle.std.specs.List.{range_with_len}
use Rattle.std.proofs.lemmas.Bool.{cases_eq, cases_lt}
use Rattle.std.proofs.lemmas.Bool.Decides.{nat_tests}
use Rattle.std.proofs.lemmas.List.{same_lists, get_or_default, get_or_past, get_or-set_same, get_or-set_other, length-set, get_or-map}
use Rattle.std.proofs.lemmas.List.FromFn.{length-map-range_with_len, get_or-map-range_with_len}
use Rattle.std.proofs.lemmas.Option.{slice_get_within, get_or_from_slice_get}
use Rattle.ls_cells.specs.Signs.{at, tabulate}
use Rattle.ls_cells.specs.Formulas.{row_at}
use Rattle.ls_cells.specs.steps.Turning.{RaisedAt, Raises, HasTurned}
use Rattle.ls_cells.proofs.ColumnLemmas.{in_none}
use Rattle.ls_cells.proofs.TabulateLemmas.{length-tabulate, at-tabulate, is_tabulate, is_below, not_below}
use Rattle.ls_cells.proofs.TurnLemmas.{length-row_at}

or_false : (b : Bool) → b ≡ (b || false)
or_false true = refl
or_false false = refl

and_false : (b : Bool) → (b && false) ≡ false
and_false true = refl
and_false false = refl

or_and : (x e t u : Bool) → ((x || (e && t)) || (e && u)) ≡ (x || (e && (t || u)))
or_and true e t u = refl
or_and false true t u = refl
or_and false false t u = refl

-- nothing is made true where no list passes
pub raises_none : (test : ℕ → Bool) (k : ℕ) (columns : List (List Bool)) → ((i : ℕ) → test i ≡ false) → Raises test k columns columns
raises_none test k columns none = record {
  as_long = refl;
  long = λ i. refl;
  value = λ i j l. or_false (at (get_or columns i []) j) ∙ ap (λ b. at (get_or columns i []) j || b) (sym (ap (λ b. (j == k) && b) (none i) ∙ and_false (j == k)));
}

-- another test that agrees
pub raises_same : (t u : ℕ → Bool) (k : ℕ) (old new : List (List Bool)) → ((i : ℕ) → i < length old → t i ≡ u i) → Raises t k old new → Raises u k old new
raises_same t u k old new same h = record {
  as_long = h.as_long;
  long = h.long;
  value = λ i j l. h.value i j l ∙ ap (λ b. at (get_or old i []) j || ((j == k) && b)) (same i l);
}

-- one test after another
pub raises_join : (t u : ℕ → Bool) (k : ℕ) (a b c : List (List Bool)) → Raises t k a b → Raises u k b c → Raises (λ i. t i || u i) k a c
raises_join t u k a b c g h = record {
  as_long = h.as_long ∙ g.as_long;
  long = λ i. h.long i ∙ g.long i;
  value = λ i j l. h.value i j (omega (arith, l, g.as_long)) ∙ ap (λ x. x || ((j == k) && u i)) (g.value i j l) ∙ or_and (at (get_or a i []) j) (j == k) (t i) (u i);
}

same_place : (i : ℕ) → (i == i) ≡ true
same_place i = grind (arith, nat_tests)

other_place : (i j : ℕ) → j ≢ i → (j == i) ≡ false
other_place i j n = grind (arith, nat_tests)

or_true : (b : Bool) → true ≡ (b || true)
or_true true = refl
or_true false = refl

-- one value
pub raises_one : (i k : ℕ) (old new : List (List Bool)) → i < length old → k < length (get_or old i []) → RaisedAt i k old new → Raises (λ m. m == i) k old new
raises_one i k old new l w h = record {
  as_long = h.as_long;
  long = λ m. elim (cases_eq m i) [
    | inl e ↦ rw e (ap length h.here ∙ length-set (get_or old i []) k true)
    | inr n ↦ ap length (h.there m n)
  ];
  value = λ m j r. elim (cases_eq m i) [
    | inl e ↦ rw e (ap (λ c. at c j) h.here ∙ here j (cases_eq j k) ∙ ap (λ b. at (get_or old i []) j || ((j == k) && b)) (sym (same_place i)))
    | inr n ↦ ap (λ c. at c j) (h.there m n) ∙ or_false (at (get_or old m []) j) ∙ ap (λ b. at (get_or old m []) j || b) (sym (ap (λ b. (j == k) && b) (other_place i m n) ∙ and_false (j == k)))
  ];
}
  where
    here : (j : ℕ) → (j ≡ k) ⊎ (j ≢ k) → at (set (get_or old i []) k true) j ≡ (at (get_or old i []) j || ((j == k) && true))
    here j (inl e) =
        ap (at (set (get_or old i []) k true)) e ∙ get_or-set_same (get_or old i []) k true false w ∙ or_true (at (get_or old i []) j)
        ∙ ap (λ b. at (get_or old i []) j || (b && true)) (sym (ap (λ x. x == k) e ∙ same_place k))
    here j (inr n) =
        get_or-set_other (get_or old i []) k j true false n ∙ or_false (at (get_or old i []) j) ∙ ap (λ b. at (get_or old i []) j || (b && true)) (sym (other_place k j n))

-- the test of an interval with one place more
between_true : (x : ℕ → Bool) (from i m : ℕ) → from ≤ i → x i ≡ true → ((nat_le from m && nat_lt m i && x m) || (m == i)) ≡ (nat_le from m && nat_lt m (i + 1) && x m)
between_true x from i m l e = elim (cases_eq m i) [
  | inl f ↦ (let a : nat_le from i ≡ true = grind (arith, nat_tests) in
      let b : nat_lt i (i + 1) ≡ true = grind (arith, nat_tests) in
      rw (f, a, b, e, same_place i) (sym (or_true _)))
  | inr n ↦ (let a : nat_lt m (i + 1) ≡ nat_lt m i = grind (arith, nat_tests) in
      rw (other_place i m n, a) (sym (or_false _)))
]

between_false : (x : ℕ → Bool) (from i m : ℕ) → x i ≡ false → (nat_le from m && nat_lt m i && x m) ≡ (nat_le from m && nat_lt m (i + 1) && x m)
between_false x from i m e = elim (cases_eq m i) [
  | inl f ↦ rw (f, e) (and_false (nat_le from i && nat_lt i i) ∙ sym (and_false (nat_le from i && nat_lt i (i + 1))))
  | inr n ↦ (let a : nat_lt m (i + 1) ≡ nat_lt m i = grind (arith, nat_tests) in rw a refl)
]

-- a place of the interval more, where the list is true
pub between_raised : (x : ℕ → Bool) (from i k : ℕ) (a b c : List (List Bool)) → from ≤ i → x i ≡ true → i < length a → k < length (get_or a i [])
    → Raises (λ m. nat_le from m && nat_lt m i && x m) k a b → RaisedAt i k b c → Raises (λ m. nat_le from m && nat_lt m (i + 1) && x m) k a c
between_raised x from i k a b c l e r w g h =
    raises_same _ (λ m. nat_le from m && nat_lt m (i + 1) && x m) k a c (λ m q. between_true x from i m l e)
    (raises_join (λ m. nat_le from m && nat_lt m i && x m) (λ m. m == i) k a b c g (raises_one i k b c (omega (arith, r, g.as_long)) (omega (arith, w, g.long i)) h))

-- and where it is not
pub between_skipped : (x : ℕ → Bool) (from i k : ℕ) (a b : List (List Bool)) → x i ≡ false
    → Raises (λ m. nat_le from m && nat_lt m i && x m) k a b → Raises (λ m. nat_le from m && nat_lt m (i + 1) && x m) k a b
between_skipped x from i k a b e g = raises_same _ (λ m. nat_le from m && nat_lt m (i + 1) && x m) k a b (λ m q. between_false x from i m e) g

-- no place is before the first
pub between_none : (x : ℕ → Bool) (from k : ℕ) (a : List (List Bool)) → Raises (λ m. nat_le from m && nat_lt m from && x m) k a a
between_none x from k a = raises_none _ k a (λ m. none m (cases_lt m from))
  where
    none : (m : ℕ) → (m < from) ⊎ (from ≤ m) → (nat_le from m && nat_lt m from && x m) ≡ false
    none m (inl l) = let e : nat_le from m ≡ false = grind (arith, nat_tests) in rw e refl
    none m (inr l) = let e : nat_lt m from ≡ false = grind (arith, nat_tests) in rw e (ap (λ p. p && x m) (and_false (nat_le from m)))

-- a block that is clear
pub block_skipped : (x : ℕ → Bool) (count block k : ℕ) (a b : List (List Bool)) → ((i : ℕ) → i / 64 ≡ block → x i ≡ false)
    → Raises (λ m. nat_lt m (block * 64) && (nat_lt m count && x m)) k a b → Raises (λ m. nat_lt m ((block + 1) * 64) && (nat_lt m count && x m)) k a b
block_skipped x count block k a b clear h = raises_same _ (λ m. nat_lt m ((block + 1) * 64) && (nat_lt m count && x m)) k a b (λ m q. by_place m (cases_lt m (block * 64))) h
  where
    after : (m : ℕ) → block * 64 ≤ m → (m < (block + 1) * 64) ⊎ ((block + 1) * 64 ≤ m) → false ≡ (nat_lt m ((block + 1) * 64) && (nat_lt m count && x m))
    after m l (inl r) = rw (clear m (omega arith), and_false (nat_lt m count)) (sym (and_false (nat_lt m ((block + 1) * 64))))
    after m l (inr r) = rw (not_below m ((block + 1) * 64) r) refl

    by_place : (m : ℕ) → (m < block * 64) ⊎ (block * 64 ≤ m) → (nat_lt m (block * 64) && (nat_lt m count && x m)) ≡ (nat_lt m ((block + 1) * 64) && (nat_lt m count && x m))
    by_place m (inl l) = rw (is_below m (block * 64) l, is_below m ((block + 1) * 64) (omega arith)) refl
    by_place m (inr l) = ap (λ p. p && (nat_lt m count && x m)) (not_below m (block * 64) l) ∙ after m l (cases_lt m ((block + 1) * 64))

-- and one that is not
pub block_raised : (x : ℕ → Bool) (count block to k : ℕ) (a b c : List (List Bool)) → to ≤ count → to ≤ block * 64 + 64 → (to ≡ count) ⊎ (to ≡ block * 64 + 64)
    → Raises (λ m. nat_lt m (block * 64) && (nat_lt m count && x m)) k a b → Raises (λ m. nat_le (block * 64) m && nat_lt m to && x m) k b c
    → Raises (λ m. nat_lt m ((block + 1) * 64) && (nat_lt m count && x m)) k a c
block_raised x count block to k a b c within most end g h =
    raises_same _ (λ m. nat_lt m ((block + 1) * 64) && (nat_lt m count && x m)) k a c (λ m q. by_place m (cases_lt m (block * 64)))
    (raises_join (λ m. nat_lt m (block * 64) && (nat_lt m count && x m)) (λ m. nat_le (block * 64) m && nat_lt m to && x m) k a b c g h)
  where
    same_end : (m : ℕ) → m < (block + 1) * 64 → (to ≡ count) ⊎ (to ≡ block * 64 + 64) → nat_lt m to ≡ nat_lt m count
    same_end m l (inl e) = ap (nat_lt m) e
    same_end m l (inr e) = is_below m to (omega (arith, e)) ∙ sym (is_below m count (omega (arith, e, within)))

    after : (m : ℕ) → block * 64 ≤ m → (m < (block + 1) * 64) ⊎ ((block + 1) * 64 ≤ m)
        → (nat_le (block * 64) m && nat_lt m to && x m) ≡ (nat_lt m ((block + 1) * 64) && (nat_lt m count && x m))
    after m l (inl r) =
        let f : nat_le (block * 64) m ≡ true = grind (arith, nat_tests) in
        rw (f, is_below m ((block + 1) * 64) r, same_end m r end) refl
    after m l (inr r) = rw (not_below m to (omega (arith, most)), not_below m ((block + 1) * 64) r) (ap (λ p. p && x m) (and_false (nat_le (block * 64) m)))

    by_place : (m : ℕ) → (m < block * 64) ⊎ (block * 64 ≤ m)
        → ((nat_lt m (block * 64) && (nat_lt m count && x m)) || (nat_le (block * 64) m && nat_lt m to && x m)) ≡ (nat_lt m ((block + 1) * 64) && (nat_lt m count && x m))
    by_place m (inl l) =
        let f : nat_le (block * 64) m ≡ false = grind (arith, nat_tests) in
        rw (f, is_below m (block * 64) l, is_below m ((block + 1) * 64) (omega arith)) (sym (or_false (nat_lt m count && x m)))
    by_place m (inr l) =
        ap (λ p. (p && (nat_lt m count && x m)) || (nat_le (block * 64) m && nat_lt m to && x m)) (not_below m (block * 64) l) ∙ after m l (cases_lt m ((block + 1) * 64))

-- before the first block, and behind the last
pub blocks_none : (x : ℕ → Bool) (count k : ℕ) (a : List (List Bool)) → Raises (λ m. nat_lt m (0 * 64) && (nat_lt m count && x m)) k a a
blocks_none x count k a = raises_none _ k a (λ m. ap (λ p. p && (nat_lt m count && x m)) (not_below m 0 (omega arith)))

pub blocks_all : (x : ℕ → Bool) (count blocks k : ℕ) (a b : List (List Bool)) → count ≤ blocks * 64 → Raises (λ m. nat_lt m (blocks * 64) && (nat_lt m count && x m)) k a b → Raises (λ m. nat_lt m count && x m) k a b
blocks_all x count blocks k a b l h = raises_same _ (λ m. nat_lt m count && x m) k a b (λ m q. by_place m (cases_lt m count)) h
  where
    by_place : (m : ℕ) → (m < count) ⊎ (count ≤ m) → (nat_lt m (blocks * 64) && (nat_lt m count && x m)) ≡ (nat_lt m count && x m)
    by_place m (inl r) = ap (λ p. p && (nat_lt m count && x m)) (is_below m (blocks * 64) (omega (arith, l, r)))
    by_place m (inr r) = rw (not_below m count r) (and_false (nat_lt m (blocks * 64)))

-- with as many of the first as there are columns, or values
pub first_all : (list : List Bool) (count k : ℕ) (a b : List (List Bool)) → (length a ≤ count) ⊎ (length list ≤ count) → Raises (λ m. nat_lt m count && at list m) k a b → Raises (at list) k a b
first_all list count k a b end h = raises_same _ (at list) k a b (λ m q. by_place m q (cases_lt m count)) h
  where
    past : (m : ℕ) → m < length a → count ≤ m → (length a ≤ count) ⊎ (length list ≤ count) → at list m ≡ false
    past m q r (inl e) = absurd (omega arith)
    past m q r (inr e) = get_or_past list m false (omega arith)

    by_place : (m : ℕ) → m < length a → (m < count) ⊎ (count ≤ m) → (nat_lt m count && at list m) ≡ at list m
    by_place m q (inl r) = ap (λ p. p && at list m) (is_below m count r)
    by_place m q (inr r) = ap (λ p. p && at list m) (not_below m count r) ∙ sym (past m q r end)

-- the values of one list more
pub turned_more : (lists : List (List Bool)) (count k : ℕ) (a b : List (List Bool)) (list : List Bool) → list ≡ get_or lists k [] → HasTurned lists count k a → Raises (at list) k a b → HasTurned lists count (k + 1) b
turned_more lists count k a b list is h r = record {
  many = r.as_long ∙ h.many;
  long = λ i l. r.long i ∙ h.long i l;
  value = λ i j l.
      r.value i j (omega (arith, l, h.many)) ∙ ap (λ x. x || ((j == k) && at list i)) (h.value i j l) ∙ by_list i j (cases_eq j k);
}
  where
    by_list : (i j : ℕ) → (j ≡ k) ⊎ (j ≢ k) → ((nat_lt j k && at (get_or lists j []) i) || ((j == k) && at list i)) ≡ (nat_lt j (k + 1) && at (get_or lists j []) i)
    by_list i j (inl e) =
        let f : nat_lt k (k + 1) ≡ true = is_below k (k + 1) (omega arith) in
        rw (e, not_below k k (omega arith), same_place k, f) (ap (λ c. at c i) is)
    by_list i j (inr n) =
        let f : nat_lt j (k + 1) ≡ nat_lt j k = grind (arith, nat_tests) in
        rw (other_place k j n, f) (sym (or_false (nat_lt j k && at (get_or lists j []) i)))

-- a column is long enough
pub turned_long : (lists : List (List Bool)) (count k : ℕ) (a : List (List Bool)) → HasTurned lists count k a → k < length lists → (i : ℕ) → i < length a → k < length (get_or a i [])
turned_long lists count k a h l i r = omega (arith, h.long i (omega (arith, h.many)))

-- lists of false values have those of no list
pub turned_none : (lists columns : List (List Bool)) → All (λ c. c ≡ tabulate (length lists) (λ i. nat_le 0 i && nat_lt i 0)) columns → HasTurned lists (length columns) 0 columns
turned_none lists columns b = record {
  many = refl;
  long = λ i l. ap length (b i [] l) ∙ length-tabulate (length lists) _;
  value = λ i j l. ap (λ c. at c j) (b i [] l) ∙ clear j (cases_lt j (length lists)) ∙ sym (ap (λ p. p && at (get_or lists j []) i) (not_below j 0 (omega arith)));
}
  where
    clear : (j : ℕ) → (j < length lists) ⊎ (length lists ≤ j) → at (tabulate (length lists) (λ i. nat_le 0 i && nat_lt i 0)) j ≡ false
    clear j (inl l) = at-tabulate (length lists) _ j l ∙ in_none j
    clear j (inr l) = get_or_past (tabulate (length lists) (λ i. nat_le 0 i && nat_lt i 0)) j false (omega (arith, l, length-tabulate (length lists) (λ i. nat_le 0 i && nat_lt i 0)))

-- the values of all lists are the lists turned over
pub turned_all : (lists columns : List (List Bool)) (count : ℕ) → HasTurned lists count (length lists) columns → columns ≡ map (row_at lists) (range_with_len 0 count)
unfolding row_at
turned_all lists columns count h =
    same_lists columns (map (row_at lists) (range_with_len 0 count)) (h.many ∙ sym (length-map-range_with_len (row_at lists) 0 count)) (λ i d l.
    get_or_default columns i d [] l ∙ same i (omega (arith, l, h.many)) ∙ sym (get_or-map-range_with_len (row_at lists) 0 count i i d (omega (arith, l, h.many)) (omega arith)))
  where
    same : (i : ℕ) → i < count → get_or columns i [] ≡ row_at lists i
    same i l =
        is_tabulate (get_or columns i []) (length lists) (λ j. at (get_or lists j []) i) (h.long i l) (λ j m.
        h.value i j l ∙ ap (λ p. p && at (get_or lists j []) i) (is_below j (length lists) m))
        ∙ sym (is_tabulate (row_at lists i) (length lists) (λ j. at (get_or lists j []) i) (length-row_at lists i) (λ j m. get_or-map (λ c. at c i) lists j [] false m))

-- one of the lists turned over
pub turned_at : (lists values : List (List Bool)) (n i : ℕ) (q : List Bool) → values ≡ map (row_at lists) (range_with_len 0 n) → slice_get values i ≡ Some q → q ≡ row_at lists i
turned_at lists values n i q e h =
    let l : i < n = omega (arith, slice_get_within values i q h, ap length e, length-map-range_with_len (row_at lists) 0 n) in
    sym (get_or_from_slice_get values i q q h) ∙ ap (λ vs. get_or vs i q) e ∙ get_or-map-range_with_len (row_at lists) 0 n i i q l (omega arith)

-- and how many there are
pub turned_count : (lists values : List (List Bool)) (n : ℕ) → values ≡ map (row_at lists) (range_with_len 0 n) → length values ≡ n
turned_count lists values n e = ap length e ∙ length-map-range_with_len (row_at lists) 0 n
