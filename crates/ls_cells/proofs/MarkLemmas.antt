-- Objects without marks of their own, and what marks add to their rows.
use Rattle.std.proofs.Common.{ℕ, zero, suc, ◌≡◌, ◌∙◌, ◌<◌, ◌≤◌, ◌+◌, add-one, refl, ap, sym, subst, arith, Bool, true, false, ◌||◌, List, [], ◌∷◌, ◌++◌, length, set, Some, Contains, All}
use Rattle.std.specs.Prelude.{slice_get}
use Rattle.std.specs.List.{AllByRecursion, list_any}
use Rattle.std.proofs.lemmas.List.{map-append}
use Rattle.std.proofs.lemmas.List.Elements.{Contains-append_left}
use Rattle.ls_object.specs.declared.symbol.Symbol.{Symbol}
use Rattle.ls_object.specs.Symbols.{same_symbol}
use Rattle.ls_object.specs.Universe.{LispObject, node, LispShape, number, character, symbol, pair, array, structure, opaque, Structures, IsName, IsObject, IsPlain, plain}
use Rattle.ls_object.proofs.SymbolLemmas.{Decides-symbol}
use Rattle.ls_spec.specs.Specifier.{Specifier, all_objects, no_objects, and_of, or_of, not_of, satisfies}
use Rattle.ls_spec.specs.Meaning.{specifiers_of}
use Rattle.ls_spec.specs.Atoms.{leaves_of_all, atoms_of}
use Rattle.ls_spec.specs.Distinct.{AreDistinctPast, at_end, again, first}
use Rattle.ls_spec.specs.Truth.{Learnt, holds}
use Rattle.ls_spec.proofs.DistinctLemmas.{AreDistinctOf-distinct}
use Rattle.ls_spec.proofs.ListLemmas.{AllByRecursion-append, AllByRecursion-weaker, AllByRecursion-contains}
use Rattle.ls_lists.specs.Candidates.{is_predicate}
use Rattle.ls_cells.specs.declared.rows.Row.{Row}
use Rattle.ls_cells.specs.Rows.{signs_of}
use Rattle.ls_cells.specs.Cells.{signs_at, bare, IsNoCons, HasObject, AreBareRowsOf, AreRowsOf}
use Rattle.ls_cells.specs.steps.Marking.{signs_to, IsMarked, Marks, AreRowsTo}
use Rattle.ls_cells.proofs.AtomLemmas.{IsAtom, atoms_are_atoms}
use Rattle.ls_cells.proofs.PlaceLemmas.{one_by_one, by_places}

-- ---- objects without marks of their own

-- an object that is no cons has no marks where its own are left out
pub bare_flat : (o : LispObject) → IsNoCons o → bare o ≡ plain o
bare_flat (node marks (number n d)) h = refl
bare_flat (node marks (character c)) h = refl
bare_flat (node marks (symbol s)) h = refl
bare_flat (node marks (array c simple dims)) h = refl
bare_flat (node marks (structure s)) h = refl
bare_flat (node marks (opaque k)) h = refl
bare_flat (node marks (pair x y)) h = absurd h

-- a plain object has none of its own
pub bare_plain : (o : LispObject) → IsPlain o → bare o ≡ o
bare_plain (node marks shape) h = let e : [] ≡ marks = cc in ap (λ m. node m shape) e

-- ---- one mark more

abbrev with_mark : Symbol → LispObject → LispObject
with_mark p (node marks shape) = node (p ∷ marks) shape

with_mark_plain : (p : Symbol) (o : LispObject) → plain (with_mark p o) ≡ plain o
with_mark_plain p (node marks shape) = refl

with_mark_object : (structures : Structures) (p : Symbol) (o : LispObject) → IsName p → IsObject structures o → IsObject structures (with_mark p o)
with_mark_object structures p (node marks shape) name h = ((name, h.0), h.1)

not_same : (p q : Symbol) → ¬ (q ≡ p) → same_symbol q p ≡ false
not_same p q other = by (same_symbol q p) refl
  where
    by : (b : Bool) → same_symbol q p ≡ b → same_symbol q p ≡ false
    by true e = absurd (other ((Decides-symbol q p).0 e))
    by false e = e

-- only the predicate sees its mark
unseen : (learnt : Learnt) (s : Specifier) (p : Symbol) (marks : List Symbol) (shape : LispShape) → IsAtom s → ¬ (s ≡ satisfies p) → holds learnt s (node (p ∷ marks) shape) ≡ holds learnt s (node marks shape)
unseen learnt all_objects p marks shape atom other = absurd atom
unseen learnt no_objects p marks shape atom other = absurd atom
unseen learnt (and_of ss) p marks shape atom other = absurd atom
unseen learnt (or_of ss) p marks shape atom other = absurd atom
unseen learnt (not_of s) p marks shape atom other = absurd atom
unseen learnt (satisfies q) p marks shape atom other = ap (λ b. b || list_any (same_symbol q) marks) (not_same p q (λ e. other (ap satisfies e)))
unseen learnt _ p marks shape atom other = refl

unseen_by_all : (learnt : Learnt) (atoms : List Specifier) (p : Symbol) (marks : List Symbol) (shape : LispShape) → AllByRecursion IsAtom atoms → AllByRecursion (λ s. ¬ (s ≡ satisfies p)) atoms
    → signs_at learnt atoms (node (p ∷ marks) shape) ≡ signs_at learnt atoms (node marks shape)
unseen_by_all learnt [] p marks shape h k = refl
unseen_by_all learnt (s ∷ atoms) p marks shape h k = let e = unseen learnt s p marks shape h.0 k.0 in let f = unseen_by_all learnt atoms p marks shape h.1 k.1 in cc

-- each of the list is another than those after it
abbrev AreApart : List Specifier → Type 0
AreApart [] = Unit {0}
AreApart (s ∷ list) = AllByRecursion (λ x. ¬ (x ≡ s)) list × AreApart list

none_seen : {seen list found : List Specifier} → AreDistinctPast seen list found → AllByRecursion (λ x. Contains seen x → ⊥) found
none_seen at_end = tt
none_seen (again c h) = none_seen h
none_seen {seen} (first {rest = rest} {x = x} n h) =
    (n, AllByRecursion-weaker (λ y. Contains (x ∷ seen) y → ⊥) (λ y. Contains seen y → ⊥) (λ y f c. f (suc c.0, omega (arith, c.1), c.2)) rest (none_seen h))

past_apart : {seen list found : List Specifier} → AreDistinctPast seen list found → AreApart found
past_apart at_end = tt
past_apart (again c h) = past_apart h
past_apart {seen} (first {rest = rest} {x = x} n h) =
    (AllByRecursion-weaker (λ y. Contains (x ∷ seen) y → ⊥) (λ y. ¬ (y ≡ x)) (λ y f e. f (0, omega arith, sym e)) rest (none_seen h), past_apart h)

atoms_apart : (list : List Specifier) → AreApart (atoms_of list)
atoms_apart list = past_apart (AreDistinctOf-distinct (leaves_of_all (specifiers_of list)))

others : (s : Specifier) (atoms : List Specifier) (place : ℕ) → AllByRecursion (λ x. ¬ (x ≡ s)) atoms → slice_get atoms place ≡ Some s → ⊥
others s [] place h e = cc
others s (x ∷ atoms) zero h e = h.0 (cc)
others s (x ∷ atoms) (suc place) h e = others s atoms place h.1 e

-- a mark makes the truth value of its predicate true, and changes no other
mark_signs : (learnt : Learnt) (atoms : List Specifier) (place : ℕ) (p : Symbol) (marks : List Symbol) (shape : LispShape) → AllByRecursion IsAtom atoms → AreApart atoms → slice_get atoms place ≡ Some (satisfies p)
    → signs_at learnt atoms (node (p ∷ marks) shape) ≡ set (signs_at learnt atoms (node marks shape)) place true
mark_signs learnt [] place p marks shape h k e = absurd (cc)
mark_signs learnt (s ∷ atoms) zero p marks shape h k e =
    let is : s ≡ satisfies p = cc in
    let own : holds learnt s (node (p ∷ marks) shape) ≡ true = ap (λ x. holds learnt x (node (p ∷ marks) shape)) is ∙ ap (λ b. b || list_any (same_symbol p) marks) ((Decides-symbol p p).1 refl) in
    let rest = unseen_by_all learnt atoms p marks shape h.1 (subst (λ x. AllByRecursion (λ y. ¬ (y ≡ x)) atoms) is k.0) in
    cc
mark_signs learnt (s ∷ atoms) (suc place) p marks shape h k e =
    let own = unseen learnt s p marks shape h.0 (λ is. others s atoms place k.0 (e ∙ ap Some (sym is))) in
    let rest = mark_signs learnt atoms place p marks shape h.1 k.1 e in
    cc

-- ---- rows

-- a marked row has an object
marked_object : (structures : Structures) (learnt : Learnt) (list : List Specifier) (place : ℕ) (p : Symbol) (row marked : Row) → IsName p → slice_get (atoms_of list) place ≡ Some (satisfies p)
    → HasObject structures learnt (atoms_of list) row → IsMarked place row marked → HasObject structures learnt (atoms_of list) marked
marked_object structures learnt list place p row marked name here h is = record {
  object = with_mark p h.object;
  is_object = with_mark_object structures p h.object name h.is_object;
  plain_form = with_mark_plain p h.object ∙ h.plain_form ∙ sym is.object;
  signs = is.signs ∙ ap (λ bs. set bs place true) h.signs ∙ sym (turned h.object);
}
  where
    turned : (o : LispObject) → signs_at learnt (atoms_of list) (with_mark p o) ≡ set (signs_at learnt (atoms_of list) o) place true
    turned (node marks shape) = mark_signs learnt (atoms_of list) place p marks shape (atoms_are_atoms list) (atoms_apart list) here

-- truth values up to a place
signs_to-none : (learnt : Learnt) (atoms : List Specifier) (o : LispObject) → signs_to 0 learnt atoms o ≡ signs_at learnt atoms (bare o)
signs_to-none learnt [] o = refl
signs_to-none learnt (s ∷ atoms) o = refl

signs_to-all : (learnt : Learnt) (atoms : List Specifier) (o : LispObject) (n : ℕ) → length atoms ≤ n → signs_to n learnt atoms o ≡ signs_at learnt atoms o
signs_to-all learnt [] o n h = refl
signs_to-all learnt (s ∷ atoms) o zero h = absurd (omega arith)
signs_to-all learnt (s ∷ atoms) o (suc n) h = ap (λ bs. holds learnt s o ∷ bs) (signs_to-all learnt atoms o n (omega arith))

signs_to-same : (learnt : Learnt) (atoms : List Specifier) (o : LispObject) (n : ℕ) (s : Specifier) → slice_get atoms n ≡ Some s → holds learnt s o ≡ holds learnt s (bare o) → signs_to (suc n) learnt atoms o ≡ signs_to n learnt atoms o
signs_to-same learnt [] o n s here e = refl
signs_to-same learnt (x ∷ atoms) o zero s here e = let is : x ≡ s = cc in let f = signs_to-none learnt atoms o in let g : holds learnt x o ≡ holds learnt x (bare o) = subst (λ y. holds learnt y o ≡ holds learnt y (bare o)) (sym is) e in cc
signs_to-same learnt (x ∷ atoms) o (suc n) s here e = ap (λ bs. holds learnt x o ∷ bs) (signs_to-same learnt atoms o n s here e)

signs_to-set : (learnt : Learnt) (atoms : List Specifier) (o : LispObject) (n : ℕ) (s : Specifier) → slice_get atoms n ≡ Some s → holds learnt s o ≡ true → signs_to (suc n) learnt atoms o ≡ set (signs_to n learnt atoms o) n true
signs_to-set learnt [] o n s here e = absurd (cc)
signs_to-set learnt (x ∷ atoms) o zero s here e = let is : x ≡ s = cc in let f = signs_to-none learnt atoms o in let g : holds learnt x o ≡ true = ap (λ y. holds learnt y o) is ∙ e in cc
signs_to-set learnt (x ∷ atoms) o (suc n) s here e = ap (λ bs. holds learnt x o ∷ bs) (signs_to-set learnt atoms o n s here e)

-- the row with these truth values
row_with : (rows : List Row) (signs : List Bool) → Contains (signs_of rows) signs → (i : ℕ) × (row : Row) × (i < length rows) × (slice_get rows i ≡ Some row) × (row.signs ≡ signs)
row_with [] signs c = absurd (omega (arith, c.1))
row_with (row ∷ rows) signs (zero, l, e) = (0, row, omega arith, refl, e)
row_with (row ∷ rows) signs (suc i, l, e) = let more = row_with rows signs (i, omega arith, e) in (suc more.0, more.1, omega (arith, more.2), more.3, more.4)

-- without predicates looked at
pub rows_to_first : (structures : Structures) (learnt : Learnt) (atoms : List Specifier) (rows : List Row) → AreBareRowsOf structures learnt atoms rows → AreRowsTo 0 structures learnt atoms rows
rows_to_first structures learnt atoms rows are = record { each = are.each; all = λ o h. subst (Contains (signs_of rows)) (sym (signs_to-none learnt atoms o)) (are.all o h) }

-- with all of them looked at
pub rows_to_last : (structures : Structures) (learnt : Learnt) (atoms : List Specifier) (n : ℕ) (rows : List Row) → length atoms ≤ n → AreRowsTo n structures learnt atoms rows → AreRowsOf structures learnt atoms rows
rows_to_last structures learnt atoms n rows h are = record { each = are.each; all = λ o k. subst (Contains (signs_of rows)) (signs_to-all learnt atoms o n h) (are.all o k) }

-- an atom that is no predicate doesn't see the marks of the object's own
bare_truth : (learnt : Learnt) (s : Specifier) (o : LispObject) → IsAtom s → is_predicate s ≡ false → holds learnt s o ≡ holds learnt s (bare o)
bare_truth learnt all_objects (node marks shape) atom h = absurd atom
bare_truth learnt no_objects (node marks shape) atom h = absurd atom
bare_truth learnt (and_of ss) (node marks shape) atom h = absurd atom
bare_truth learnt (or_of ss) (node marks shape) atom h = absurd atom
bare_truth learnt (not_of s) (node marks shape) atom h = absurd atom
bare_truth learnt (satisfies p) (node marks shape) atom h = absurd (cc)
bare_truth learnt _ (node marks shape) atom h = refl

atom_at : (list atoms : List Specifier) (n : ℕ) (s : Specifier) → AllByRecursion IsAtom atoms → slice_get atoms n ≡ Some s → IsAtom s
atom_at list [] n s h e = absurd (cc)
atom_at list (x ∷ atoms) zero s h e = let is : x ≡ s = cc in subst IsAtom is h.0
atom_at list (x ∷ atoms) (suc n) s h e = atom_at list atoms n s h.1 e

-- one atom more that is no predicate
pub rows_to_same : (structures : Structures) (learnt : Learnt) (list : List Specifier) (n : ℕ) (s : Specifier) (rows : List Row) → slice_get (atoms_of list) n ≡ Some s → is_predicate s ≡ false
    → AreRowsTo n structures learnt (atoms_of list) rows → AreRowsTo (n + 1) structures learnt (atoms_of list) rows
rows_to_same structures learnt list n s rows here other are = rw add-one record {
  each = are.each;
  all = λ o h. subst (Contains (signs_of rows)) (sym (signs_to-same learnt (atoms_of list) o n s here (bare_truth learnt s o (atom_at list (atoms_of list) n s (atoms_are_atoms list) here) other))) (are.all o h);
}

-- a predicate has a name
pub predicate_is : (s : Specifier) → is_predicate s ≡ true → (p : Symbol) × (s ≡ satisfies p)
predicate_is (satisfies p) h = (p, refl)
predicate_is _ h = absurd (cc)

bare_false : (learnt : Learnt) (p : Symbol) (o : LispObject) → holds learnt (satisfies p) (bare o) ≡ false
bare_false learnt p (node marks shape) = refl

-- one predicate more, by which the rows were doubled
pub rows_to_marked : (structures : Structures) (learnt : Learnt) (list : List Specifier) (n : ℕ) (p : Symbol) (old new : List Row) → slice_get (atoms_of list) n ≡ Some (satisfies p) → IsName p → Marks n (length old) old new
    → AreRowsTo n structures learnt (atoms_of list) old → AreRowsTo (n + 1) structures learnt (atoms_of list) new
rows_to_marked structures learnt list n p old new here name m are = rw add-one record { each = each; all = all }
  where
    Has : Row → Type 0
    Has = HasObject structures learnt (atoms_of list)

    there : AllByRecursion Has old
    there = one_by_one Has old are.each

    each : All Has new
    each =
        subst (All Has) (sym m.is) (by_places Has (old ++ m.more) (AllByRecursion-append Has old m.more there
        (AllByRecursion-weaker (λ marked. (row : Row) × Contains old row × IsMarked n row marked) Has
        (λ marked k. marked_object structures learnt list n p k.0 marked name here (AllByRecursion-contains Has old k.0 there k.1) k.2) m.more m.each)))

    all : (o : LispObject) → IsObject structures o → Contains (signs_of new) (signs_to (suc n) learnt (atoms_of list) o)
    all o h = by (holds learnt (satisfies p) o) refl
      where
        kept : Contains (signs_of new) (signs_to n learnt (atoms_of list) o)
        kept =
            subst (λ rows. Contains rows (signs_to n learnt (atoms_of list) o)) (sym (ap signs_of m.is ∙ map-append (λ (r : Row). r.signs) old m.more))
            (Contains-append_left (signs_of old) (signs_of m.more) (signs_to n learnt (atoms_of list) o) (are.all o h))

        by : (b : Bool) → holds learnt (satisfies p) o ≡ b → Contains (signs_of new) (signs_to (suc n) learnt (atoms_of list) o)
        by true e =
            let found = row_with old (signs_to n learnt (atoms_of list) o) (are.all o h) in
            subst (Contains (signs_of new)) (ap (λ bs. set bs n true) found.4 ∙ sym (signs_to-set learnt (atoms_of list) o n (satisfies p) here e)) (m.all found.0 found.1 found.2 found.3)
        by false e = subst (Contains (signs_of new)) (sym (signs_to-same learnt (atoms_of list) o n (satisfies p) here (e ∙ sym (bare_false learnt p o)))) kept
