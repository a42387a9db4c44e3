-- What the making of a list behind its cars and its cdrs leaves, and where it was broken off.
use Rattle.std.proofs.Common.{ℕ, ◌≡◌, ◌≤◌, ◌<◌, ◌+◌, ◌*◌, ◌^◌, sym, ◌∙◌, ap, subst, arith, List, [], ◌∷◌, ◌++◌, length, true, false, IsTrue, None, All}
use Rattle.ls_object.specs.declared.table.Code.{Code}
use Rattle.ls_object.specs.Universe.{Structures}
use Rattle.ls_spec.specs.Specifier.{Specifier}
use Rattle.ls_spec.specs.Atoms.{atoms_of}
use Rattle.ls_spec.specs.Fits.{Fits}
use Rattle.ls_spec.specs.Truth.{Learnt, IsLearnt}
use Rattle.ls_lists.specs.Sides.{cars_of, cdrs_of, height}
use Rattle.ls_lists.specs.Candidates.{candidates, predicates}
use Rattle.ls_lists.specs.Walks.{part, is_none, among, is_done, walk, rows, IsClosed}
use Rattle.ls_lists.proofs.FallLemmas.{cars_less, cdrs_less}
use Rattle.ls_lists.proofs.WalkLemmas.{walk_done, walk_fresh}
use Rattle.ls_lists.proofs.KeptLemmas.{closed_more}
use Rattle.ls_intern.specs.Places.{specifiers_at, AllBelow, Distinct}
use Rattle.ls_memo.specs.Kept.{kept_for}
use Rattle.ls_sides.specs.Gathering.{AreSides}
use Rattle.ls_cells.specs.declared.rows.Row.{Row}
use Rattle.ls_cells.specs.declared.cells.Cells.{Cells}
use Rattle.ls_cells.specs.Cells.{AreRowsOf}
use Rattle.ls_cells.specs.Codes.{Codes, codes_of, AreCodes, HasCodes}
use Rattle.ls_cells.specs.Rows.{AreDifferent}
use Rattle.ls_cells.specs.Kept.{lists, count_rows, entries_of, AreRightFor, AreCellsOf, AreKept, Began}
use Rattle.ls_cells.specs.steps.Filling.{MayMake, Makes, Fills}
use Rattle.ls_cells.proofs.BeganLemmas.{began_start, began_cars, began_cdrs, began_own, began_all, own_walked, sides_done}
use Rattle.ls_cells.proofs.CountLemmas.{at_most_rows}
use Rattle.ls_cells.proofs.DescentLemmas.{fit_cars, fit_cdrs, codes_cars, codes_cdrs}
use Rattle.ls_cells.proofs.MakeLemmas.{made_wide, made_some}
use Rattle.ls_cells.proofs.EntryLemmas.{none_kept, kept_more, keys_last, grows_none, grows_both}

abbrev Memo : Type 0
Memo = List (List ℕ × Cells)

abbrev keys : List Specifier → Memo → List (List Specifier)
keys known memo = lists (entries_of known memo)

-- nothing had to be made
pub fills_none : (structures : Structures) (known list : List Specifier) (memo : Memo) (s : ℕ) → AreKept structures known memo → Fills structures known list memo memo s s
fills_none structures known list memo s k = record {
  kept = k;
  began = began_start list (keys known memo) s;
  rises = omega arith;
  rows = omega arith;
  grows = grows_none memo;
}

pub walked_done : (known list : List Specifier) (memo : Memo) → is_done list (keys known memo) ≡ true → keys known memo ≡ walk list (keys known memo)
walked_done known list memo e = sym (walk_done list (keys known memo) e)

-- it was broken off among the cars
pub fills_cars : (structures : Structures) (known list : List Specifier) (firsts : List ℕ) (old new : Memo) (s0 s1 : ℕ) → is_done list (keys known old) ≡ false → specifiers_at known firsts ≡ cars_of list
    → Fills structures known (specifiers_at known firsts) old new s0 s1 → Fills structures known list old new s0 s1
fills_cars structures known list firsts old new s0 s1 e f h = record {
  kept = h.kept;
  began = began_cars list (keys known old) (keys known new) s0 s1 e (subst (λ l. Began l (keys known old) (keys known new) s0 s1) f h.began);
  rises = h.rises;
  rows = h.rows;
  grows = h.grows;
}

-- it was broken off among the cdrs
pub fills_cdrs : (structures : Structures) (known list : List Specifier) (firsts seconds : List ℕ) (old mid new : Memo) (s0 s1 s2 : ℕ) → is_done list (keys known old) ≡ false
    → specifiers_at known firsts ≡ cars_of list → specifiers_at known seconds ≡ cdrs_of list
    → Fills structures known (specifiers_at known firsts) old mid s0 s1 → keys known mid ≡ walk (specifiers_at known firsts) (keys known old)
    → Fills structures known (specifiers_at known seconds) mid new s1 s2 → Fills structures known list old new s0 s2
fills_cdrs structures known list firsts seconds old mid new s0 s1 s2 e f g h m k =
    let a = h.rises in let b = k.rises in let c = h.rows in let d = k.rows in
    record {
      kept = k.kept;
      began = began_cdrs list (keys known old) (keys known mid) (keys known new) s0 s1 s2 e (m ∙ ap (λ l. walk l (keys known old)) f)
          (subst (λ l. Began l (keys known old) (keys known mid) s0 s1) f h.began) (subst (λ l. Began l (keys known mid) (keys known new) s1 s2) g k.began);
      rises = omega arith;
      rows = omega arith;
      grows = grows_both old mid new h.grows k.grows;
    }

-- the list itself was begun
pub fills_own : (structures : Structures) (known list : List Specifier) (firsts seconds : List ℕ) (old mid two new : Memo) (s0 s1 s2 s3 : ℕ) → is_done list (keys known old) ≡ false
    → specifiers_at known firsts ≡ cars_of list → specifiers_at known seconds ≡ cdrs_of list
    → Fills structures known (specifiers_at known firsts) old mid s0 s1 → keys known mid ≡ walk (specifiers_at known firsts) (keys known old)
    → Fills structures known (specifiers_at known seconds) mid two s1 s2 → keys known two ≡ walk (specifiers_at known seconds) (keys known mid)
    → s2 ≤ s3 → s3 ≤ s2 + part list → new ≡ two → Fills structures known list old new s0 s3
fills_own structures known list firsts seconds old mid two new s0 s1 s2 s3 e f g h m k n up most same =
    let a = h.rises in let b = k.rises in let c = h.rows in let d = k.rows in
    subst (λ x. Fills structures known list old x s0 s3) (sym same) (record {
      kept = k.kept;
      began = began_own list (keys known old) (keys known mid) (keys known two) s0 s1 s2 s3 e (m ∙ ap (λ l. walk l (keys known old)) f) (n ∙ ap (λ l. walk l (keys known mid)) g)
          (subst (λ l. Began l (keys known old) (keys known mid) s0 s1) f h.began) (subst (λ l. Began l (keys known mid) (keys known two) s1 s2) g k.began) most;
      rises = omega arith;
      rows = omega arith;
      grows = grows_both old mid two h.grows k.grows;
    })

-- the lists that are kept after one was put in
pub put_keys : (structures : Structures) (known : List Specifier) (ids : List ℕ) (old new : Memo) → Makes structures known ids old new → keys known new ≡ keys known old ++ specifiers_at known ids ∷ []
put_keys structures known ids old new p = ap (keys known) p.put ∙ keys_last known old ids p.made

-- what is kept then
put_kept : (structures : Structures) (known : List Specifier) (ids : List ℕ) (old new : Memo) → AllBelow (length known) ids → AreKept structures known old
    → IsTrue (is_done (cars_of (specifiers_at known ids)) (keys known old)) → IsTrue (is_done (cdrs_of (specifiers_at known ids)) (keys known old)) → Makes structures known ids old new → AreKept structures known new
put_kept structures known ids old new b k f g p = subst (AreKept structures known) (sym p.put) (record {
  order = k.order;
  each = kept_more structures known old ids p.made k.each b p.right;
  closed = subst IsClosed (sym (keys_last known old ids p.made)) (closed_more (specifiers_at known ids) (keys known old) k.closed f g);
})

-- all of it was made
pub fills_all : (structures : Structures) (known : List Specifier) (ids firsts seconds : List ℕ) (old mid two new : Memo) (s0 s1 s2 s3 : ℕ) → AllBelow (length known) ids → AreKept structures known old → is_done (specifiers_at known ids) (keys known old) ≡ false
    → specifiers_at known firsts ≡ cars_of (specifiers_at known ids) → specifiers_at known seconds ≡ cdrs_of (specifiers_at known ids)
    → Fills structures known (specifiers_at known firsts) old mid s0 s1 → keys known mid ≡ walk (specifiers_at known firsts) (keys known old)
    → Fills structures known (specifiers_at known seconds) mid two s1 s2 → keys known two ≡ walk (specifiers_at known seconds) (keys known mid)
    → s2 ≤ s3 → s3 ≤ s2 + part (specifiers_at known ids) → count_rows (entries_of known new) + s2 ≤ count_rows (entries_of known two) + s3 → Makes structures known ids two new
    → Fills structures known (specifiers_at known ids) old new s0 s3
fills_all structures known ids firsts seconds old mid two new s0 s1 s2 s3 below start e f g h m k n up most more p =
    let list = specifiers_at known ids in
    let a = h.rises in let b = k.rises in let c = h.rows in let d = k.rows in
    let i = m ∙ ap (λ l. walk l (keys known old)) f in
    let j = n ∙ ap (λ l. walk l (keys known mid)) g in
    let done = sides_done list (keys known old) (keys known mid) (keys known two) start.closed i j in
    record {
      kept = put_kept structures known ids two new below k.kept done.0 done.1 p;
      began = began_all list (keys known old) (keys known mid) (keys known two) (keys known new) s0 s1 s2 s3 e i j
          (subst (λ l. Began l (keys known old) (keys known mid) s0 s1) f h.began) (subst (λ l. Began l (keys known mid) (keys known two) s1 s2) g k.began) most (put_keys structures known ids two new p);
      rises = omega arith;
      rows = omega arith;
      grows = grows_both old two new (grows_both old mid two h.grows k.grows) (record { more = (ids, p.made) ∷ []; is = p.put });
    }

pub walked_all : (structures : Structures) (known : List Specifier) (ids firsts seconds : List ℕ) (old mid two new : Memo) → is_done (specifiers_at known ids) (keys known old) ≡ false
    → specifiers_at known firsts ≡ cars_of (specifiers_at known ids) → specifiers_at known seconds ≡ cdrs_of (specifiers_at known ids)
    → keys known mid ≡ walk (specifiers_at known firsts) (keys known old) → keys known two ≡ walk (specifiers_at known seconds) (keys known mid) → Makes structures known ids two new
    → keys known new ≡ walk (specifiers_at known ids) (keys known old)
walked_all structures known ids firsts seconds old mid two new e f g m n p =
    own_walked (specifiers_at known ids) (keys known old) (keys known mid) (keys known two) (keys known new) e (m ∙ ap (λ l. walk l (keys known old)) f) (n ∙ ap (λ l. walk l (keys known mid)) g) (put_keys structures known ids two new p)

-- nothing was kept for the list while its cars and its cdrs were made
pub absent_after : (known : List Specifier) (ids firsts seconds : List ℕ) (old mid two : Memo) → is_done (specifiers_at known ids) (keys known old) ≡ false
    → specifiers_at known firsts ≡ cars_of (specifiers_at known ids) → specifiers_at known seconds ≡ cdrs_of (specifiers_at known ids)
    → keys known mid ≡ walk (specifiers_at known firsts) (keys known old) → keys known two ≡ walk (specifiers_at known seconds) (keys known mid) → kept_for ids two ≡ None
absent_after known ids firsts seconds old mid two e f g m n =
    none_kept known ids two
    (ap (among (specifiers_at known ids)) (n ∙ ap (λ l. walk l (keys known mid)) g ∙ ap (walk (cdrs_of (specifiers_at known ids))) (m ∙ ap (λ l. walk l (keys known old)) f))
    ∙ walk_fresh (specifiers_at known ids) (keys known old) e)

-- then it may be made
pub may_make : (structures : Structures) (known list : List Specifier) (atoms cars cdrs firsts seconds : List ℕ) (codes : List (List ℕ × Code)) (old mid two : Memo) (s1 s2 : ℕ) → Distinct known → is_none list ≡ false → All (Fits structures) list
    → AreCodes structures known codes → All (HasCodes (codes_of known codes)) list → AreSides known list atoms cars cdrs
    → AreKept structures known old → firsts ≡ cars → seconds ≡ cdrs → keys known mid ≡ walk (specifiers_at known firsts) (keys known old)
    → Fills structures known (specifiers_at known seconds) mid two s1 s2 → keys known two ≡ walk (specifiers_at known seconds) (keys known mid) → MayMake structures known list atoms cars cdrs codes two
may_make structures known list atoms cars cdrs firsts seconds codes old mid two s1 s2 d some fit right learnt sides start f g m k n =
    let i = m ∙ ap (λ l. walk (specifiers_at known l) (keys known old)) f ∙ ap (λ l. walk l (keys known old)) sides.cars_are in
    let j = n ∙ ap (λ l. walk (specifiers_at known l) (keys known mid)) g ∙ ap (λ l. walk l (keys known mid)) sides.cdrs_are in
    let done = sides_done list (keys known old) (keys known mid) (keys known two) start.closed i j in
    record { distinct = d; some = some; fit = fit; right = right; learnt = learnt; sides = sides; kept = k.kept; cars_done = done.0; cdrs_done = done.1 }

-- the cars and the cdrs as they are handed on
pub cars_at : (known list : List Specifier) (atoms cars cdrs shown : List ℕ) → AreSides known list atoms cars cdrs → shown ≡ cars → (specifiers_at known shown ≡ cars_of list) × AllBelow (length known) shown
cars_at known list atoms cars cdrs shown s e = (ap (specifiers_at known) e ∙ s.cars_are, subst (AllBelow (length known)) (sym e) s.cars_below)

pub cdrs_at : (known list : List Specifier) (atoms cars cdrs shown : List ℕ) → AreSides known list atoms cars cdrs → shown ≡ cdrs → (specifiers_at known shown ≡ cdrs_of list) × AllBelow (length known) shown
cdrs_at known list atoms cars cdrs shown s e = (ap (specifiers_at known) e ∙ s.cdrs_are, subst (AllBelow (length known)) (sym e) s.cdrs_below)

-- they are less high, and fit
pub cars_lower : (known list : List Specifier) (shown : List ℕ) → is_none list ≡ false → specifiers_at known shown ≡ cars_of list → height (specifiers_at known shown) < height list
cars_lower known list shown some e = subst (λ l. height l < height list) (sym e) (cars_less list some)

pub cdrs_lower : (known list : List Specifier) (shown : List ℕ) → is_none list ≡ false → specifiers_at known shown ≡ cdrs_of list → height (specifiers_at known shown) < height list
cdrs_lower known list shown some e = subst (λ l. height l < height list) (sym e) (cdrs_less list some)

pub cars_fit : (structures : Structures) (known list : List Specifier) (shown : List ℕ) → specifiers_at known shown ≡ cars_of list → All (Fits structures) list → All (Fits structures) (specifiers_at known shown)
cars_fit structures known list shown e h = subst (All (Fits structures)) (sym e) (fit_cars structures list h)

pub cdrs_fit : (structures : Structures) (known list : List Specifier) (shown : List ℕ) → specifiers_at known shown ≡ cdrs_of list → All (Fits structures) list → All (Fits structures) (specifiers_at known shown)
cdrs_fit structures known list shown e h = subst (All (Fits structures)) (sym e) (fit_cdrs structures list h)

-- and so of the codes of their element types
pub cars_coded : (known list : List Specifier) (shown : List ℕ) (codes : Codes) → specifiers_at known shown ≡ cars_of list → All (HasCodes codes) list → All (HasCodes codes) (specifiers_at known shown)
cars_coded known list shown codes e h = subst (All (HasCodes codes)) (sym e) (codes_cars codes list h)

pub cdrs_coded : (known list : List Specifier) (shown : List ℕ) (codes : Codes) → specifiers_at known shown ≡ cdrs_of list → All (HasCodes codes) list → All (HasCodes codes) (specifiers_at known shown)
cdrs_coded known list shown codes e h = subst (All (HasCodes codes)) (sym e) (codes_cdrs codes list h)

-- the cells of a list that was made are right, and its rows no more than it may have, and one at least
pub made_cells : (structures : Structures) (known list : List Specifier) (atoms cars cdrs : List ℕ) (codes : List (List ℕ × Code)) (memo : Memo) (found : List Row) (cells : Cells) (s0 s1 : ℕ) → MayMake structures known list atoms cars cdrs codes memo
    → ((learnt : Learnt) → All (IsLearnt structures learnt) (atoms_of list) → AreRowsOf structures learnt (atoms_of list) found) → AreDifferent found
    → length found + s0 ≤ s1 → s1 ≤ s0 + 2 ^ predicates list * (candidates list + rows (cars_of list) * rows (cdrs_of list)) → cells.atoms ≡ atoms → cells.rows ≡ found → AreCellsOf structures known list cells
made_cells structures known list atoms cars cdrs codes memo found cells s0 s1 m f different fewer most e g =
    let right : AreRightFor structures list found = record {
      are = f;
      few = at_most_rows list found m.some (made_wide structures known list atoms cars cdrs codes memo found m f) different (omega arith);
      some = made_some structures known list atoms cars cdrs codes memo found m f;
    } in
    record {
      below = subst (AllBelow (length known)) (sym e) m.sides.atoms_below;
      atoms_are = ap (specifiers_at known) e ∙ m.sides.atoms_are;
      right = subst (AreRightFor structures list) (sym g) right;
    }
