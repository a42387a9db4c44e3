-- What is kept by numbers, and for the lists that the numbers stand for.
use Rattle.std.proofs.Common.{ℕ, min, ◌≡◌, ◌≤◌, ◌+◌, ◌-◌, ◌^◌, refl, sym, ◌∙◌, ap, subst, arith, List, [], ◌∷◌, ◌++◌, append_assoc, append-nil, length, Bool, true, false, ◌||◌, ◌&&◌, ◌==◌, if◌then◌else◌, Option, None, Some, nat_eq}
use Rattle.std.specs.List.{list_any}
use Rattle.std.specs.Cmp.Lexicographic.{pointwise}
use Rattle.std.proofs.lemmas.List.{length-map}
use Rattle.std.proofs.lemmas.List.Sums.{sum_by-cons, sum_by_push}
use Rattle.ls_object.specs.Universe.{Structures}
use Rattle.ls_object.proofs.SymbolLemmas.{Decides-text}
use Rattle.ls_spec.specs.Specifier.{Specifier}
use Rattle.ls_spec.specs.Distinct.{same}
use Rattle.ls_lists.specs.Walks.{is_none, among, is_done, IsClosed}
use Rattle.ls_lists.proofs.AmongLemmas.{same_list_itself}
use Rattle.ls_intern.specs.Places.{at, specifiers_at, AllBelow, Distinct, Extends}
use Rattle.ls_intern.proofs.PlaceLemmas.{specifiers_grown, all_below_grown}
use Rattle.ls_memo.specs.Kept.{kept_for}
use Rattle.ls_sides.proofs.GatherLemmas.{same_at}
use Rattle.ls_cells.specs.declared.cells.Cells.{Cells}
use Rattle.ls_cells.specs.Kept.{lists, count_rows, entries_of, AreCellsOf, AllKept, AreKept, AreCounted, Grows}

abbrev Memo : Type 0
Memo = List (List ℕ × Cells)

abbrev keys : List Specifier → Memo → List (List Specifier)
keys known memo = lists (entries_of known memo)

-- two lists of numbers are equal exactly where their specifiers are the same
same_lists : (known : List Specifier) → Distinct known → (xs ys : List ℕ) → AllBelow (length known) xs → AllBelow (length known) ys
    → pointwise nat_eq xs ys ≡ pointwise same (specifiers_at known xs) (specifiers_at known ys)
same_lists known d [] [] h k = refl
same_lists known d [] (y ∷ ys) h k = refl
same_lists known d (x ∷ xs) [] h k = refl
same_lists known d (x ∷ xs) (y ∷ ys) h k =
    let e = same_at known d x y h.0 k.0 in
    let f = same_lists known d xs ys h.1 k.1 in
    ap (λ b. b && pointwise nat_eq xs ys) e ∙ ap (λ b. same (at known x) (at known y) && b) f

among_cons : (list other : List Specifier) (more : List (List Specifier)) → among list (other ∷ more) ≡ (pointwise same list other || among list more)
unfolding among
among_cons list other more = refl

among_none : (list : List Specifier) → among list [] ≡ false
unfolding among
among_none list = refl

or_true : (b c : Bool) → b ≡ true → (b || c) ≡ true
or_true true c e = refl
or_true false c e = absurd (cc)

or_second : (b c : Bool) → c ≡ true → (b || c) ≡ true
or_second true c e = refl
or_second false c e = e

or_false : (b c : Bool) → b ≡ false → c ≡ false → (b || c) ≡ false
or_false b c e f = ap (λ x. x || c) e ∙ f

-- something is kept for a list exactly where it is among the kept lists
pub kept_among : (known : List Specifier) (ids : List ℕ) (memo : Memo) (cells : Cells) → kept_for ids memo ≡ Some cells → among (specifiers_at known ids) (keys known memo) ≡ true
kept_among known ids [] cells e = absurd (cc)
kept_among known ids (x ∷ memo) cells e = among_cons _ _ _ ∙ by (pointwise nat_eq ids x.0) refl e (λ f. kept_among known ids memo cells f)
  where
    here : ids ≡ x.0 → pointwise same (specifiers_at known ids) (specifiers_at known x.0) ≡ true
    here f = subst (λ y. pointwise same (specifiers_at known ids) (specifiers_at known y) ≡ true) f (same_list_itself (specifiers_at known ids))

    by : (b : Bool) → pointwise nat_eq ids x.0 ≡ b → (if b then Some x.1 else kept_for ids memo) ≡ Some cells → (kept_for ids memo ≡ Some cells → among (specifiers_at known ids) (keys known memo) ≡ true)
        → (pointwise same (specifiers_at known ids) (specifiers_at known x.0) || among (specifiers_at known ids) (keys known memo)) ≡ true
    by true i e f = or_true _ _ (here ((Decides-text ids x.0).0 i))
    by false i e f = or_second _ _ (f e)

-- a list that is not among them has nothing kept for it
pub none_kept : (known : List Specifier) (ids : List ℕ) (memo : Memo) → among (specifiers_at known ids) (keys known memo) ≡ false → kept_for ids memo ≡ None
none_kept known ids memo e = by (kept_for ids memo) refl
  where
    by : (o : Option Cells) → kept_for ids memo ≡ o → kept_for ids memo ≡ None
    by None f = f
    by (Some cells) f = absurd (let g = kept_among known ids memo cells f in let h : true ≡ false = sym g ∙ e in cc)

pub not_kept : (structures : Structures) (known : List Specifier) → Distinct known → (ids : List ℕ) (memo : Memo) → AllBelow (length known) ids → AllKept structures known memo → kept_for ids memo ≡ None
    → among (specifiers_at known ids) (keys known memo) ≡ false
unfolding among
not_kept structures known d ids [] b h e = refl
not_kept structures known d ids (x ∷ memo) b h e = by (pointwise nat_eq ids x.0) (same_lists known d ids x.0 b h.0.0) e (λ f. not_kept structures known d ids memo b h.1 f)
  where
    by : (c : Bool) → c ≡ pointwise same (specifiers_at known ids) (specifiers_at known x.0) → (if c then Some x.1 else kept_for ids memo) ≡ None → (kept_for ids memo ≡ None → among (specifiers_at known ids) (keys known memo) ≡ false)
        → (pointwise same (specifiers_at known ids) (specifiers_at known x.0) || list_any (pointwise same (specifiers_at known ids)) (keys known memo)) ≡ false
    by true i e f = absurd (cc)
    by false i e f = ap (λ y. y || list_any (pointwise same (specifiers_at known ids)) (keys known memo)) (sym i) ∙ f e

-- what is kept for a list are its cells
pub cells_kept : (structures : Structures) (known : List Specifier) (ids : List ℕ) (memo : Memo) (cells : Cells) → AllKept structures known memo → kept_for ids memo ≡ Some cells → AreCellsOf structures known (specifiers_at known ids) cells
cells_kept structures known ids [] cells h e = absurd (cc)
cells_kept structures known ids (x ∷ memo) cells h e = by (pointwise nat_eq ids x.0) refl e (λ f. cells_kept structures known ids memo cells h.1 f)
  where
    by : (b : Bool) → pointwise nat_eq ids x.0 ≡ b → (if b then Some x.1 else kept_for ids memo) ≡ Some cells → (kept_for ids memo ≡ Some cells → AreCellsOf structures known (specifiers_at known ids) cells) → AreCellsOf structures known (specifiers_at known ids) cells
    by true i e f = let j : x.1 ≡ cells = cc in subst (AreCellsOf structures known (specifiers_at known ids)) j (subst (λ l. AreCellsOf structures known (specifiers_at known l) x.1) (sym ((Decides-text ids x.0).0 i)) h.0.1)
    by false i e f = f e

-- one more list behind the others
pub kept_more : (structures : Structures) (known : List Specifier) (memo : Memo) (ids : List ℕ) (cells : Cells) → AllKept structures known memo → AllBelow (length known) ids → AreCellsOf structures known (specifiers_at known ids) cells → AllKept structures known (memo ++ (ids, cells) ∷ [])
kept_more structures known [] ids cells h b e = ((b, e), tt)
kept_more structures known (x ∷ memo) ids cells h b e = (h.0, kept_more structures known memo ids cells h.1 b e)

entries_last : (known : List Specifier) (memo : Memo) (ids : List ℕ) (cells : Cells) → entries_of known (memo ++ (ids, cells) ∷ []) ≡ entries_of known memo ++ (specifiers_at known ids, cells.rows) ∷ []
entries_last known [] ids cells = refl
entries_last known (x ∷ memo) ids cells = ap (λ l. (specifiers_at known x.0, x.1.rows) ∷ l) (entries_last known memo ids cells)

pub keys_last : (known : List Specifier) (memo : Memo) (ids : List ℕ) (cells : Cells) → keys known (memo ++ (ids, cells) ∷ []) ≡ keys known memo ++ specifiers_at known ids ∷ []
keys_last known [] ids cells = refl
keys_last known (x ∷ memo) ids cells = ap (λ l. specifiers_at known x.0 ∷ l) (keys_last known memo ids cells)

pub count_last : (known : List Specifier) (memo : Memo) (ids : List ℕ) (cells : Cells) → count_rows (entries_of known (memo ++ (ids, cells) ∷ [])) ≡ count_rows (entries_of known memo) + length cells.rows
count_last known memo ids cells = ap count_rows (entries_last known memo ids cells) ∙ sum_by_push (λ e. length e.1) (entries_of known memo) (specifiers_at known ids, cells.rows)

-- a table that grows leaves what is kept
pub entries_grown : (structures : Structures) (a b : List Specifier) (memo : Memo) → Extends a b → AllKept structures a memo → entries_of b memo ≡ entries_of a memo
entries_grown structures a b [] g h = refl
entries_grown structures a b (x ∷ memo) g h =
    let e = specifiers_grown a b x.0 g h.0.0 in
    let f = entries_grown structures a b memo g h.1 in
    ap (λ l. (l, x.1.rows) ∷ entries_of b memo) e ∙ ap (λ l. (specifiers_at a x.0, x.1.rows) ∷ l) f

cells_grown : (structures : Structures) (a b : List Specifier) (list : List Specifier) (cells : Cells) → Extends a b → AreCellsOf structures a list cells → AreCellsOf structures b list cells
cells_grown structures a b list cells g h = record {
  below = all_below_grown a b cells.atoms g h.below;
  atoms_are = specifiers_grown a b cells.atoms g h.below ∙ h.atoms_are;
  right = h.right;
}

all_grown : (structures : Structures) (a b : List Specifier) (memo : Memo) → Extends a b → AllKept structures a memo → AllKept structures b memo
all_grown structures a b [] g h = tt
all_grown structures a b (x ∷ memo) g h = (
  (
    all_below_grown a b x.0 g h.0.0,
    subst (λ l. AreCellsOf structures b l x.1) (sym (specifiers_grown a b x.0 g h.0.0)) (cells_grown structures a b (specifiers_at a x.0) x.1 g h.0.1),
  ),
  all_grown structures a b memo g h.1,
)

pub kept_grown : (structures : Structures) (a b : List Specifier) (memo : Memo) → Extends a b → AreKept structures a memo → AreKept structures b memo
kept_grown structures a b memo g h = record {
  order = h.order;
  each = all_grown structures a b memo g h.each;
  closed = subst (λ e. IsClosed (lists e)) (sym (entries_grown structures a b memo g h.each)) h.closed;
}

-- what is there grows by nothing, and twice
pub grows_none : {X : Type 0} (old : List X) → Grows old old
grows_none old = record { more = []; is = sym (append-nil old) }

pub grows_both : {X : Type 0} (a b c : List X) → Grows a b → Grows b c → Grows a c
grows_both a b c e f = record { more = e.more ++ f.more; is = f.is ∙ ap (λ x. x ++ f.more) e.is ∙ append_assoc a e.more f.more }

-- whether a list is empty
pub is_some : (known : List Specifier) (ids : List ℕ) (b : Bool) → b ≡ (length ids == 0) → b ≡ false → is_none (specifiers_at known ids) ≡ false
is_some known [] b e f = absurd (let g : false ≡ true = sym f ∙ e in cc)
is_some known (i ∷ ids) b e f = refl

pub is_empty_list : (known : List Specifier) (ids : List ℕ) (b : Bool) → b ≡ (length ids == 0) → b ≡ true → is_none (specifiers_at known ids) ≡ true
is_empty_list known [] b e f = refl
is_empty_list known (i ∷ ids) b e f = absurd (let g = sym f ∙ e in grind arith)

-- what is done, and what is not
pub done_empty : (known list : List Specifier) (memo : Memo) → is_none list ≡ true → is_done list (keys known memo) ≡ true
done_empty known list memo e = or_true _ _ e

pub done_before : (known : List Specifier) (ids : List ℕ) (memo : Memo) (cells : Cells) → kept_for ids memo ≡ Some cells → is_done (specifiers_at known ids) (keys known memo) ≡ true
done_before known ids memo cells e = or_second _ _ (kept_among known ids memo cells e)

pub not_done : (structures : Structures) (known : List Specifier) → Distinct known → (ids : List ℕ) (memo : Memo) → AllBelow (length known) ids → AreKept structures known memo → is_none (specifiers_at known ids) ≡ false → kept_for ids memo ≡ None
    → is_done (specifiers_at known ids) (keys known memo) ≡ false
not_done structures known d ids memo b c e f = or_false _ _ e (not_kept structures known d ids memo b c.each f)

-- what is counted with one more list
pub counted_more : (known : List Specifier) (old new : Memo) (ids : List ℕ) (cells : Cells) (count more now : ℕ) → AreCounted known old count → new ≡ old ++ (ids, cells) ∷ [] → more ≡ length cells.rows → now ≡ min (count + more) (2 ^ 64 - 1) → AreCounted known new now
counted_more known old new ids cells count more now c e f g =
    let h = ap (λ m. count_rows (entries_of known m)) e ∙ count_last known old ids cells in
    let i : now ≡ min (count_rows (entries_of known old) + length cells.rows) (2 ^ 64 - 1) = omega arith in
    i ∙ ap (λ n. min n (2 ^ 64 - 1)) (sym h)

pub rows_more : (known : List Specifier) (old new : Memo) (ids : List ℕ) (cells : Cells) (before now : ℕ) → new ≡ old ++ (ids, cells) ∷ [] → length cells.rows + before ≤ now → count_rows (entries_of known new) + before ≤ count_rows (entries_of known old) + now
rows_more known old new ids cells before now e f =
    let h = ap (λ m. count_rows (entries_of known m)) e ∙ count_last known old ids cells in omega arith

-- each kept list has a row, so there are as many rows as kept lists, or more
kept_rows : (structures : Structures) (known : List Specifier) (memo : Memo) → AllKept structures known memo → length memo ≤ count_rows (entries_of known memo)
kept_rows structures known [] h = omega arith
kept_rows structures known (x ∷ memo) h =
    let some = h.0.1.right.some in
    let more = kept_rows structures known memo h.1 in
    let e = sum_by-cons (λ e. length e.1) (specifiers_at known x.0, x.1.rows) (entries_of known memo) in omega arith

-- and so of what is counted, where there are no more lists than the greatest u64
pub kept_counted : (structures : Structures) (known : List Specifier) (memo : Memo) (count : ℕ) → AreKept structures known memo → AreCounted known memo count → length memo ≤ 2 ^ 64 - 1 → length (entries_of known memo) ≤ count
kept_counted structures known memo count k c within =
    let h = kept_rows structures known memo k.each in
    let e : length (entries_of known memo) ≡ length memo = length-map memo (λ (e : List ℕ × Cells). (specifiers_at known e.0, e.1.rows)) in omega arith
