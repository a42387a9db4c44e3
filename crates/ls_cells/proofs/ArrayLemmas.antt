-- The arrays that stand for all have the truth values of all arrays.
use Rattle.std.proofs.Common.{ℕ, ◌≡◌, ◌∙◌, ◌⊎◌, ◌<◌, ◌+◌, inl, inr, refl, sym, ap, subst, Bool, List, [], ◌∷◌, ◌++◌, length, map, take, get_or, Decides, Contains, MatchBool, arith}
use Rattle.std.proofs.lemmas.List.{map-append, take_more}
use Rattle.std.proofs.lemmas.List.Elements.{Contains-push_cases}
use Rattle.ls_object.specs.declared.object.Object.{Object}
use Rattle.ls_object.specs.Universe.{LispObject, node, array, Structures, IsObject, IsPlain, plain}
use Rattle.ls_object.specs.Meaning.{lisp_object}
use Rattle.ls_spec.specs.Specifier.{Specifier}
use Rattle.ls_spec.specs.Regions.{AreInSameAtoms, IsRepresented}
use Rattle.ls_spec.specs.Truth.{Learnt}
use Rattle.ls_arrays.specs.declared.atom.ArrayAtom.{ArrayAtom}
use Rattle.ls_arrays.specs.Arrays.{IsArray, IsArrayIn, IsIn}
use Rattle.ls_arrays.proofs.ArrayLaw.{Decides-in}
use Rattle.ls_cells.specs.declared.rows.Row.{Row}
use Rattle.ls_cells.specs.Rows.{signs_of, origin_object}
use Rattle.ls_cells.specs.Cells.{signs_at, bare, AddsRows}
use Rattle.ls_cells.specs.steps.Asking.{is_asked, asked_signs, AreSigns}
use Rattle.ls_cells.specs.steps.Classes.{IsItself}
use Rattle.ls_cells.proofs.AddLemmas.{with_row, adds_row}
use Rattle.ls_cells.proofs.ClassLemmas.{same_decided}
use Rattle.ls_cells.proofs.MarkLemmas.{bare_plain}

-- whether an object is an array in the atom
pub Decides-asked : (a : ArrayAtom) (o : LispObject) → Decides (is_asked o a) (IsArrayIn a o)
Decides-asked a (node marks shape) = Decides-in a marks shape

-- arrays in the same atoms are as the same atoms ask
same_asked : (structures : Structures) (asked : List ArrayAtom) (x y : LispObject) → AreInSameAtoms (IsIn structures) asked x y → asked_signs asked x ≡ asked_signs asked y
same_asked structures [] x y same = refl
same_asked structures (a ∷ asked) x y same =
    let e = same_decided (is_asked x a) (is_asked y a) (Decides-asked a x) (Decides-asked a y) same.0.0 same.0.1 in
    let f = same_asked structures asked x y same.1 in
    cc

-- marks change nothing
plain_one : (a : ArrayAtom) (o : LispObject) → IsArray o → is_asked (plain o) a ≡ is_asked o a
plain_one a (node marks (array c s ns)) is = refl
plain_one a (node marks _) is = absurd is

-- nor in a list
plain_asked : (asked : List ArrayAtom) (o : LispObject) → IsArray o → asked_signs asked (plain o) ≡ asked_signs asked o
plain_asked [] o is = refl
plain_asked (a ∷ asked) o is = let e = plain_one a o is in let f = plain_asked asked o is in cc

-- the truth value of one atom more
pub signs_more : (asked : List ArrayAtom) (i : ℕ) (a : ArrayAtom) (o : LispObject) (old new : List Bool) (b : Bool) → i < length asked → a ≡ get_or asked i a → IsArray o → Decides b (IsArrayIn a (plain o))
    → old ≡ asked_signs (take i asked) o → new ≡ old ++ b ∷ [] → new ≡ asked_signs (take (i + 1) asked) o
signs_more asked i a o old new b l e is d f g =
    let value : b ≡ is_asked o a = same_decided b (is_asked (plain o) a) d (Decides-asked a (plain o)) (λ h. h) (λ h. h) ∙ plain_one a o is in
    g ∙ ap (λ (bs : List Bool). bs ++ b ∷ []) f ∙ ap (λ (x : Bool). asked_signs (take i asked) o ++ x ∷ []) (value ∙ ap (is_asked o) e)
    ∙ sym (ap (map (is_asked o)) (take_more asked i a l) ∙ map-append (is_asked o) (take i asked) (get_or asked i a ∷ []))

module _ (structures : Structures) (learnt : Learnt) (atoms : List Specifier) (asked : List ArrayAtom) (right : AreSigns structures learnt atoms asked) where
  -- an array has the truth values of the one that stands for it
  represented : (r o : LispObject) → IsObject structures r → IsArray r → IsObject structures o → IsArray o → AreInSameAtoms (IsIn structures) asked r (plain o)
      → signs_at learnt atoms (bare r) ≡ signs_at learnt atoms (bare o)
  represented r o r_object r_is object is same =
      right r r_object r_is ∙ same_asked structures asked r (plain o) same ∙ plain_asked asked o is ∙ sym (right o object is)

  -- one of those that stand for the arrays has its row
  pub array_step : (before after : List Object) (last : Object) (o : LispObject) (old new : List Row) → before ≡ after ++ last ∷ []
      → AddsRows structures learnt atoms (IsItself (lisp_object last)) old new → IsObject structures (lisp_object last) → IsArray (lisp_object last) → IsObject structures o → IsArray o
      → IsRepresented (IsIn structures) asked before o ⊎ Contains (signs_of old) (signs_at learnt atoms (bare o)) → IsRepresented (IsIn structures) asked after o ⊎ Contains (signs_of new) (signs_at learnt atoms (bare o))
  array_step before after last o old new e adds last_object last_is object is (inr c) = inr (adds.kept (signs_at learnt atoms (bare o)) c)
  array_step before after last o old new e adds last_object last_is object is (inl (r, there, same)) = by_place (Contains-push_cases after last r (subst (λ xs. Contains xs r) e there))
    where
      by_place : Contains after r ⊎ (last ≡ r) → IsRepresented (IsIn structures) asked after o ⊎ Contains (signs_of new) (signs_at learnt atoms (bare o))
      by_place (inl h) = inl (r, h, same)
      by_place (inr f) =
          inr (subst (Contains (signs_of new))
          (represented (lisp_object last) o last_object last_is object is (subst (λ x. AreInSameAtoms (IsIn structures) asked (lisp_object x) (plain o)) (sym f) same))
          (adds.all (lisp_object last) last_object refl))

  -- with none left each array has its row
  pub array_done : (left : List Object) (o : LispObject) (rows : List Row) → left ≡ [] → IsRepresented (IsIn structures) asked left o ⊎ Contains (signs_of rows) (signs_at learnt atoms (bare o))
      → Contains (signs_of rows) (signs_at learnt atoms (bare o))
  array_done left o rows e (inl (r, there, same)) = absurd (none (subst (λ xs. Contains xs r) e there))
    where
      none : Contains [] r → ⊥
      none (k, l, f) = omega arith
  array_done left o rows e (inr c) = c

  -- the row of an array that is made of it
  pub array_row : (row : Row) (x : LispObject) (old new : List Row) (fresh : Bool)
      → MatchBool fresh (¬ Contains (signs_of old) row.signs) (Contains (signs_of old) row.signs) → new ≡ with_row fresh old row
      → IsObject structures x → IsArray x → IsPlain x → origin_object row.origin.value ≡ x → row.signs ≡ asked_signs asked x → AddsRows structures learnt atoms (IsItself x) old new
  array_row row x old new fresh is e object in_class unmarked made signs =
      let same : row.signs ≡ signs_at learnt atoms (bare x) = signs ∙ sym (right x object in_class) in
      adds_row structures learnt atoms (IsItself x) old new row fresh is e
      (record { object = x; is_object = object; plain_form = unmarked ∙ sym made; signs = same ∙ ap (signs_at learnt atoms) (bare_plain x unmarked) })
      (λ o there f. same ∙ ap (λ y. signs_at learnt atoms (bare y)) (sym f))
