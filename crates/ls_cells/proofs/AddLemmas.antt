-- What rows that are added for one class after another come to.
use Rattle.std.proofs.Common.{ℕ, ◌≡◌, ◌⊎◌, ◌≤◌, ◌+◌, arith, length-append, inl, inr, sym, ap, subst, Bool, true, false, if◌then◌else◌, MatchBool, List, [], ◌∷◌, ◌++◌, length, All, Contains}
use Rattle.std.proofs.lemmas.List.{map-append}
use Rattle.std.proofs.lemmas.List.Elements.{All-push, Contains-append_left, Contains-push}
use Rattle.ls_object.specs.Universe.{LispObject, node, number, character, symbol, pair, array, structure, opaque, Structures, IsObject}
use Rattle.ls_points.specs.Classes.{IsNumber, IsCharacter, IsSymbol, IsOpaque, IsStructure}
use Rattle.ls_arrays.specs.Arrays.{IsArray}
use Rattle.ls_spec.specs.Specifier.{Specifier}
use Rattle.ls_spec.specs.Truth.{Learnt}
use Rattle.ls_cells.specs.declared.rows.Row.{Row}
use Rattle.ls_cells.specs.Rows.{signs_of, AreLong}
use Rattle.ls_cells.specs.Cells.{signs_at, bare, HasObject, AddsRows, IsNoCons}

-- the old rows with a row behind them, unless it was there
abbrev pub with_row : Bool → List Row → Row → List Row
with_row fresh old row = if fresh then old ++ row ∷ [] else old

-- the truth values of the old rows stay
pub with_kept : (fresh : Bool) (old : List Row) (row : Row) (signs : List Bool) → Contains (signs_of old) signs → Contains (signs_of (with_row fresh old row)) signs
with_kept true old row signs h =
    subst (λ xs. Contains xs signs) (sym (map-append (λ (r : Row). r.signs) old (row ∷ []))) (Contains-append_left (signs_of old) (row.signs ∷ []) signs h)
with_kept false old row signs h = h

-- those of the row are there
pub with_itself : (fresh : Bool) (old : List Row) (row : Row) → MatchBool fresh (¬ Contains (signs_of old) row.signs) (Contains (signs_of old) row.signs) → Contains (signs_of (with_row fresh old row)) row.signs
with_itself true old row h =
    subst (λ xs. Contains xs row.signs) (sym (map-append (λ (r : Row). r.signs) old (row ∷ []))) (Contains-push (signs_of old) row.signs)
with_itself false old row h = h

-- what each old row has and the row has, each row has
with_all : (P : Row → Type 0) (fresh : Bool) (old : List Row) (row : Row) → P row → All P old → All P (with_row fresh old row)
with_all P true old row p h = All-push P old row h p
with_all P false old row p h = h

-- a row was added, unless it was there, that has the truth values of each object of a class
pub adds_row : (structures : Structures) (learnt : Learnt) (atoms : List Specifier) (IsOfClass : LispObject → Type 0) (old new : List Row) (row : Row) (fresh : Bool)
    → MatchBool fresh (¬ Contains (signs_of old) row.signs) (Contains (signs_of old) row.signs) → new ≡ with_row fresh old row
    → HasObject structures learnt atoms row → ((o : LispObject) → IsObject structures o → IsOfClass o → row.signs ≡ signs_at learnt atoms (bare o))
    → AddsRows structures learnt atoms IsOfClass old new
adds_row structures learnt atoms IsOfClass old new row fresh is e has same = record {
  kept = λ signs h. subst (λ rows. Contains (signs_of rows) signs) (sym e) (with_kept fresh old row signs h);
  each = λ h. subst (All (HasObject structures learnt atoms)) (sym e) (with_all (HasObject structures learnt atoms) fresh old row has h);
  all = λ o object of_class. subst (λ rows. Contains (signs_of rows) (signs_at learnt atoms (bare o))) (sym e) (subst (Contains (signs_of (with_row fresh old row))) (same o object of_class) (with_itself fresh old row is));
}

-- rows stay long
pub long_with : (n : ℕ) (old new : List Row) (row : Row) (fresh : Bool) → new ≡ with_row fresh old row → length row.signs ≡ n → AreLong n old → AreLong n new
long_with n old new row fresh e l h = subst (AreLong n) (sym e) (with_all (λ r. length r.signs ≡ n) fresh old row l h)

-- at most one is added
pub fewer_with : (old new : List Row) (row : Row) (fresh : Bool) → new ≡ with_row fresh old row → length new ≤ length old + 1
fewer_with old new row true e = omega (arith, ap length e, length-append old (row ∷ []))
fewer_with old new row false e = omega (arith, ap length e)

module _ (structures : Structures) (learnt : Learnt) (atoms : List Specifier) where
  -- two classes, one after the other
  pub adds_both : (P Q : LispObject → Type 0) (old mid new : List Row) → AddsRows structures learnt atoms P old mid → AddsRows structures learnt atoms Q mid new → AddsRows structures learnt atoms (λ o. P o ⊎ Q o) old new
  adds_both P Q old mid new h k = record {
    kept = λ signs c. k.kept signs (h.kept signs c);
    each = λ c. k.each (h.each c);
    all = λ o object. either o object;
  }
    where
      either : (o : LispObject) → IsObject structures o → P o ⊎ Q o → Contains (signs_of new) (signs_at learnt atoms (bare o))
      either o object (inl p) = k.kept (signs_at learnt atoms (bare o)) (h.all o object p)
      either o object (inr q) = k.all o object q

  -- a class within another
  adds_within : (P Q : LispObject → Type 0) (old new : List Row) → ((o : LispObject) → IsObject structures o → Q o → P o) → AddsRows structures learnt atoms P old new → AddsRows structures learnt atoms Q old new
  adds_within P Q old new f h = record { kept = h.kept; each = h.each; all = λ o object q. h.all o object (f o object q) }

  -- all classes but conses
  pub adds_flat : (r0 r1 r2 r3 r4 r5 r6 : List Row) → AddsRows structures learnt atoms IsNumber r0 r1 → AddsRows structures learnt atoms IsCharacter r1 r2 → AddsRows structures learnt atoms IsSymbol r2 r3
      → AddsRows structures learnt atoms IsOpaque r3 r4 → AddsRows structures learnt atoms (IsStructure structures) r4 r5 → AddsRows structures learnt atoms IsArray r5 r6 → AddsRows structures learnt atoms IsNoCons r0 r6
  adds_flat r0 r1 r2 r3 r4 r5 r6 a b c d e f =
      let five = adds_both (IsStructure structures) IsArray r4 r5 r6 e f in
      let four = adds_both IsOpaque (λ o. IsStructure structures o ⊎ IsArray o) r3 r4 r6 d five in
      let three = adds_both IsSymbol (λ o. IsOpaque o ⊎ (IsStructure structures o ⊎ IsArray o)) r2 r3 r6 c four in
      let two = adds_both IsCharacter (λ o. IsSymbol o ⊎ (IsOpaque o ⊎ (IsStructure structures o ⊎ IsArray o))) r1 r2 r6 b three in
      let one = adds_both IsNumber (λ o. IsCharacter o ⊎ (IsSymbol o ⊎ (IsOpaque o ⊎ (IsStructure structures o ⊎ IsArray o)))) r0 r1 r6 a two in
      adds_within (λ o. IsNumber o ⊎ (IsCharacter o ⊎ (IsSymbol o ⊎ (IsOpaque o ⊎ (IsStructure structures o ⊎ IsArray o))))) IsNoCons r0 r6 by_shape one
    where
      by_shape : (o : LispObject) → IsObject structures o → IsNoCons o → IsNumber o ⊎ (IsCharacter o ⊎ (IsSymbol o ⊎ (IsOpaque o ⊎ (IsStructure structures o ⊎ IsArray o))))
      by_shape (node marks (number n d)) object h = inl tt
      by_shape (node marks (character c)) object h = inr (inl tt)
      by_shape (node marks (symbol s)) object h = inr (inr (inl tt))
      by_shape (node marks (opaque k)) object h = inr (inr (inr (inl tt)))
      by_shape (node marks (structure s)) object h = inr (inr (inr (inr (inl object.1.1))))
      by_shape (node marks (array c simple dims)) object h = inr (inr (inr (inr (inr tt))))
      by_shape (node marks (pair x y)) object h = absurd h
