-- A binary search in rows whose names ascend finds what stands with the name.
use Rattle.std.proofs.Common.{ℕ, zero, suc, ◌≡◌, ◌<◌, ◌≤◌, ◌∙◌, sym, ap, refl, Bool, true, false, ◌&&◌, List, [], ◌∷◌, length, get_or, Some, None, Result, Ok, Err, Bor, arith, add-one, inl, inr, ◌⊎◌}
use Rattle.std.specs.declared.cmp.Ordering.{Ordering}
use Rattle.std.specs.declared.cmp.Ordering.TheVariants.{Less, Equal, Greater}
use Rattle.std.specs.Ordering.{nat_cmp, is_lt, is_eq, ordering_reverse}
use Rattle.std.specs.Result.{MatchResult}
use Rattle.std.specs.List.Sorted.{IsBinarySearchResult, IsSearchInRange, IsSortedBy}
use Rattle.std.specs.Cmp.Lexicographic.{slice_cmp, bytes_decides, texts_ties}
use Rattle.std.proofs.lemmas.Cmp.{nat_list_cmp_total}
use Rattle.std.proofs.lemmas.List.Sorted.{searchable_from_sorted}
use Rattle.ls_object.specs.ObjectText.{is_text}
use Rattle.ls_tables.specs.Builtins.{look_up}
use Rattle.ls_tables.specs.steps.Search.{rows_of, ascends}

-- the order of texts by their bytes
abbrev order : List ℕ → List ℕ → Ordering
order = slice_cmp nat_cmp

-- texts that the order tells apart are different
differs : (a b : List ℕ) (o : Ordering) → order a b ≡ o → is_eq o ≡ false → is_text a b ≡ false
differs a b o e n = texts_ties a b ∙ ap is_eq e ∙ n

-- texts that the order holds equal are the same
same : (a b : List ℕ) → order a b ≡ Equal → is_text a b ≡ true
same a b e = texts_ties a b ∙ ap is_eq e

-- the answer that passes the test `is_lt`
is_less : (o : Ordering) → is_lt o ≡ true → o ≡ Less
is_less Less h = refl
is_less Equal h = absurd (cc)
is_less Greater h = absurd (cc)

-- the first of two tests that both hold
pub left : (a b : Bool) → (a && b) ≡ true → a ≡ true
left true b h = refl
left false b h = h

-- and the second
pub right : (a b : Bool) → (a && b) ≡ true → b ≡ true
right true b h = h
right false b h = absurd (cc)

-- a place is before another or not
below_or_not : (k i : ℕ) → (k < i) ⊎ (i ≤ k)
below_or_not k i = grind arith

-- a row of a table, with its name lent
abbrev Row : Type 0 → Type 0
Row V = Bor (List ℕ) × V

module _ {V : Type 0} where
  -- without the first row the others ascend
  rest_ascends : (row : Row V) (rows : List (Row V)) → ascends (rows_of (row ∷ rows)) ≡ true → ascends (rows_of rows) ≡ true
  rest_ascends row [] h = refl
  rest_ascends row (next ∷ rows) h = right _ _ h

  -- the first name comes before each other one
  after_first : (row : Row V) (rows : List (Row V)) → ascends (rows_of (row ∷ rows)) ≡ true → (k : ℕ) (d : Row V) → k < length rows → order row.0.now (get_or rows k d).0.now ≡ Less
  after_first row [] h k d l = absurd (omega arith)
  after_first row (next ∷ rows) h zero d l = is_less _ (left _ _ h)
  after_first row (next ∷ rows) h (suc k) d l =
      nat_list_cmp_total.trans row.0.now next.0.now (get_or rows k d).0.now (is_less _ (left _ _ h)) (after_first next rows (right _ _ h) k d (omega arith))

  -- each name comes before the next one
  next_after : (rows : List (Row V)) → ascends (rows_of rows) ≡ true → (k : ℕ) (d : Row V) → suc k < length rows → order (get_or rows k d).0.now (get_or rows (suc k) d).0.now ≡ Less
  next_after [] h k d l = absurd (omega arith)
  next_after (row ∷ rows) h zero d l = after_first row rows h zero d (omega arith)
  next_after (row ∷ rows) h (suc k) d l = next_after rows (rest_ascends row rows h) k d (omega arith)

  -- what stands with a name of the table
  look_up_at : (rows : List (Row V)) → ascends (rows_of rows) ≡ true → (name : List ℕ) (k : ℕ) (d : Row V) → k < length rows → order (get_or rows k d).0.now name ≡ Equal → look_up name (rows_of rows) ≡ Some (get_or rows k d).1
  look_up_at [] h name k d l e = absurd (omega arith)
  look_up_at (row ∷ rows) h name zero d l e = rw (same row.0.now name e) refl
  look_up_at (row ∷ rows) h name (suc k) d l e =
      let there : (get_or rows k d).0.now ≡ name = (bytes_decides _ name).0 (same _ name e) in
      let before : order row.0.now name ≡ Less = ap (order row.0.now) (sym there) ∙ after_first row rows h k d (omega arith) in
      rw (differs row.0.now name Less before refl) (look_up_at rows (rest_ascends row rows h) name k d (omega arith) e)

  -- a name that no row has
  look_up_none : (rows : List (Row V)) (name : List ℕ) → ((k : ℕ) (d : Row V) → k < length rows → is_text (get_or rows k d).0.now name ≡ false) → look_up name (rows_of rows) ≡ None
  look_up_none [] name h = refl
  look_up_none (row ∷ rows) name h = rw (h zero row (omega arith)) (look_up_none rows name (λ k d l. h (suc k) d (omega arith)))

  -- so the names are sorted as a binary search asks
  sorted : (rows : List (Row V)) → ascends (rows_of rows) ≡ true → IsSortedBy (λ (a b : Row V). is_lt (order a.0.now b.0.now)) rows
  sorted rows h k d low l =
      let next : order (get_or rows k d).0.now (get_or rows (suc k) d).0.now ≡ Less = next_after rows h k d (omega arith) in
      rw add-one (ap is_lt (nat_list_cmp_total.antisymm (get_or rows (suc k) d).0.now (get_or rows k d).0.now ∙ ap ordering_reverse next))

  -- what a binary search answers is what stands with the name
  pub searched : (rows : List (Row V)) (name : List ℕ) (r : Result ℕ ℕ) → ascends (rows_of rows) ≡ true → IsSearchInRange r (length rows) → IsBinarySearchResult (λ (row : Row V). order row.0.now name) rows r → MatchResult r (λ i. (d : Row V) → look_up name (rows_of rows) ≡ Some (get_or rows i d).1) (λ i. look_up name (rows_of rows) ≡ None)
  searched rows name (Ok i) h l at = λ d. look_up_at rows h name i d l (at d)
  searched rows name (Err i) h l parted =
      let parts = parted (searchable_from_sorted nat_list_cmp_total (λ (row : Row V). row.0.now) rows name (sorted rows h)) in
      look_up_none rows name (λ k d m. elim (below_or_not k i) [
        | inl b ↦ differs _ name Less (parts.0 k d (omega arith) b) refl
        | inr b ↦ differs _ name Greater (parts.1 k d b m) refl
      ])
