-- What it comes to where the truth values that were to be added have a row already.
use Rattle.std.proofs.Common.{ℕ, ◌≡◌, ◌∙◌, sym, ap, subst, Bool, List, [], ◌∷◌, append-nil, ◌&&◌, nat_lt, nat_le, true, length}
use Rattle.std.specs.Prelude.{Some, Contains, slice_get}
use Rattle.std.proofs.lemmas.Option.{slice_get_within, get_or_from_slice_get}
use Rattle.ls_object.specs.Universe.{LispObject, node, pair, Structures, IsObject}
use Rattle.ls_spec.specs.Atoms.{atoms_of}
use Rattle.ls_spec.specs.Specifier.{Specifier}
use Rattle.ls_spec.specs.Truth.{Learnt}
use Rattle.ls_lists.specs.Sides.{cars_of}
use Rattle.ls_lists.specs.Walks.{is_none}
use Rattle.ls_cells.specs.declared.rows.Row.{Row}
use Rattle.ls_cells.specs.Rows.{signs_of}
use Rattle.ls_cells.specs.Cells.{signs_at, bare, AddsRows, IsCons}
use Rattle.ls_cells.specs.Signs.{tabulate}
use Rattle.ls_cells.specs.steps.Pairing.{joined, Crosses}
use Rattle.ls_cells.proofs.ConsLemmas.{no_cons_signs}
use Rattle.ls_cells.proofs.CrossLemmas.{in_one}

-- a list has what stands at one of its places
pub has_at : {X : Type 0} (xs : List X) (i : ℕ) (x : X) → slice_get xs i ≡ Some x → Contains xs x
has_at xs i x e = (i, slice_get_within xs i x e, get_or_from_slice_get xs i x x e)

-- no row is added for a class of which each object has the truth values of a row that is there
pub adds_none : (structures : Structures) (learnt : Learnt) (atoms : List Specifier) (IsOfClass : LispObject → Type 0) (rows : List Row) (signs : List Bool) (i : ℕ)
    → slice_get (signs_of rows) i ≡ Some signs → ((o : LispObject) → IsObject structures o → IsOfClass o → signs ≡ signs_at learnt atoms (bare o))
    → AddsRows structures learnt atoms IsOfClass rows rows
adds_none structures learnt atoms IsOfClass rows signs i there same = record {
  kept = λ _ h. h;
  each = λ h. h;
  all = λ o object of_class. subst (Contains (signs_of rows)) (same o object of_class) (has_at (signs_of rows) i signs there);
}

-- no row is added for a pair whose truth values have a row
pub crosses_there : (car cdr : Row) (rows : List Row) (signs : List Bool) (i : ℕ) → signs ≡ joined car.signs cdr.signs → slice_get (signs_of rows) i ≡ Some signs
    → Crosses (car ∷ []) (cdr ∷ []) rows rows
crosses_there car cdr rows signs i both there = record {
  more = [];
  is = sym (append-nil rows);
  each = tt;
  all = λ a b h k.
      subst (Contains (signs_of rows)) (both ∙ ap (λ r. joined r.signs cdr.signs) (sym (in_one car a h)) ∙ ap (λ r. joined a.signs r.signs) (sym (in_one cdr b k))) (has_at (signs_of rows) i signs there);
}

-- nor for conses, where no atom is a CONS
pub cons_there : (structures : Structures) (learnt : Learnt) (list : List Specifier) (count : ℕ) (rows : List Row) (signs : List Bool) (i : ℕ) → slice_get (signs_of rows) i ≡ Some signs
    → signs ≡ tabulate count (λ i. nat_le 0 i && nat_lt i 0) → length (atoms_of list) ≡ count → is_none (cars_of list) ≡ true
    → AddsRows structures learnt (atoms_of list) IsCons rows rows
cons_there structures learnt list count rows signs i there is e none = adds_none structures learnt (atoms_of list) IsCons rows signs i there same
  where
    same : (o : LispObject) → IsObject structures o → IsCons o → signs ≡ signs_at learnt (atoms_of list) (bare o)
    same (node marks (pair u v)) _ j = is ∙ sym (no_cons_signs learnt list count u v e none)
    same (node marks _) _ j = absurd j
