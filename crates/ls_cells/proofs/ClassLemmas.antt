-- The objects that stand for a class have the truth values of the whole class.
use Rattle.std.proofs.Common.{◌≡◌, ◌∙◌, ◌↔◌, ◌⊎◌, inl, inr, refl, ap, sym, subst, arith, Bool, true, false, List, [], ◌∷◌, ◌++◌, map, Decides, All, Contains, MatchBool}
use Rattle.std.specs.List.{AllByRecursion}
use Rattle.std.proofs.lemmas.List.Elements.{recursion_from_All, Contains-push_cases}
use Rattle.ls_object.specs.declared.object.Object.{Object}
use Rattle.ls_object.specs.Universe.{LispObject, Structures, IsObject, IsPlain, plain}
use Rattle.ls_object.specs.Meaning.{lisp_object}
use Rattle.ls_spec.specs.declared.spec.Spec.{Spec}
use Rattle.ls_spec.specs.Specifier.{Specifier}
use Rattle.ls_spec.specs.Meaning.{specifier}
use Rattle.ls_spec.specs.Membership.{Belongs}
use Rattle.ls_points.specs.Members.{IsFit, IsFitIn}
use Rattle.ls_spec.specs.Regions.{AreInSameAtoms, IsRepresented}
use Rattle.ls_spec.specs.Truth.{Learnt, holds, IsLearnt}
use Rattle.ls_spec.proofs.TruthLemmas.{holds-Decides}
use Rattle.ls_cells.specs.declared.rows.Row.{Row}
use Rattle.ls_cells.specs.Rows.{signs_of, origin_object}
use Rattle.ls_cells.specs.Cells.{signs_at, bare, IsNoCons, AddsRows}
use Rattle.ls_cells.specs.steps.Classes.{IsItself}
use Rattle.ls_cells.proofs.AddLemmas.{with_row, adds_row}
use Rattle.ls_cells.proofs.MarkLemmas.{bare_flat, bare_plain}

-- two truth values that decide one thing
pub same_decided : {P Q : Type 0} (a b : Bool) → Decides a P → Decides b Q → (P → Q) → (Q → P) → a ≡ b
same_decided true b d e f g = sym (e.1 (f (d.0 refl)))
same_decided false true d e f g = d.1 (g (e.0 refl))
same_decided false false d e f g = refl

module _ (structures : Structures) (learnt : Learnt) (IsIn : Spec → LispObject → Type 0)
    (meaning : (a : Spec) (o : LispObject) → IsIn a o ↔ Belongs structures (specifier a) o) where
  -- a truth value that decides whether an object is in an atom is the one of the row
  pub decided_is : (a : Spec) (o : LispObject) (r : Bool) → IsLearnt structures learnt (specifier a) → Decides r (IsIn a o) → r ≡ holds learnt (specifier a) o
  decided_is a o r known d =
      same_decided r (holds learnt (specifier a) o) d (holds-Decides structures learnt (specifier a) o known) (meaning a o).0 (meaning a o).1

  -- objects in the same atoms have the same truth values
  pub same_signs : (atoms : List Spec) (x y : LispObject) → AllByRecursion (IsLearnt structures learnt) (map specifier atoms) → AreInSameAtoms IsIn atoms x y
      → signs_at learnt (map specifier atoms) x ≡ signs_at learnt (map specifier atoms) y
  same_signs [] x y known same = refl
  same_signs (a ∷ atoms) x y known same =
      let e = same_decided (holds learnt (specifier a) x) (holds learnt (specifier a) y)
      (holds-Decides structures learnt (specifier a) x known.0) (holds-Decides structures learnt (specifier a) y known.0)
      (λ b. (meaning a y).0 (same.0.0 ((meaning a x).1 b))) (λ b. (meaning a x).0 (same.0.1 ((meaning a y).1 b))) in
      let f = same_signs atoms x y known.1 same.1 in
      cc

  -- a representative has the truth values of the object that it stands for, marks left out
  pub represented_signs : (atoms : List Spec) (r o : LispObject) → AllByRecursion (IsLearnt structures learnt) (map specifier atoms) → IsPlain r → IsNoCons o
      → AreInSameAtoms IsIn atoms r (plain o) → signs_at learnt (map specifier atoms) (bare r) ≡ signs_at learnt (map specifier atoms) (bare o)
  represented_signs atoms r o known unmarked flat same =
      ap (signs_at learnt (map specifier atoms)) (bare_plain r unmarked) ∙ same_signs atoms r (plain o) known same ∙ ap (signs_at learnt (map specifier atoms)) (sym (bare_flat o flat))

  -- one of those that stand for the class has its row
  pub class_step : (atoms : List Spec) (before after : List Object) (last : Object) (o : LispObject) (old new : List Row) → before ≡ after ++ last ∷ [] → All (IsLearnt structures learnt) (map specifier atoms) → IsNoCons o
      → AddsRows structures learnt (map specifier atoms) (IsItself (lisp_object last)) old new → IsObject structures (lisp_object last) → IsPlain (lisp_object last)
      → IsRepresented IsIn atoms before o ⊎ Contains (signs_of old) (signs_at learnt (map specifier atoms) (bare o)) → IsRepresented IsIn atoms after o ⊎ Contains (signs_of new) (signs_at learnt (map specifier atoms) (bare o))
  class_step atoms before after last o old new e known flat adds object unmarked (inr c) = inr (adds.kept (signs_at learnt (map specifier atoms) (bare o)) c)
  class_step atoms before after last o old new e known flat adds object unmarked (inl (r, there, same)) = by_place (Contains-push_cases after last r (subst (λ xs. Contains xs r) e there))
    where
      by_place : Contains after r ⊎ (last ≡ r) → IsRepresented IsIn atoms after o ⊎ Contains (signs_of new) (signs_at learnt (map specifier atoms) (bare o))
      by_place (inl h) = inl (r, h, same)
      by_place (inr f) =
          inr (subst (Contains (signs_of new))
          (represented_signs atoms (lisp_object last) o (recursion_from_All (IsLearnt structures learnt) (map specifier atoms) known) unmarked flat
          (subst (λ x. AreInSameAtoms IsIn atoms (lisp_object x) (plain o)) (sym f) same)) (adds.all (lisp_object last) object refl))

  -- with none left each object of the class has its row
  pub class_done : (atoms : List Spec) (left : List Object) (o : LispObject) (rows : List Row) → left ≡ [] → IsRepresented IsIn atoms left o ⊎ Contains (signs_of rows) (signs_at learnt (map specifier atoms) (bare o)) → Contains (signs_of rows) (signs_at learnt (map specifier atoms) (bare o))
  class_done atoms left o rows e (inl (r, there, same)) = absurd (none (subst (λ xs. Contains xs r) e there))
    where
      none : Contains [] r → ⊥
      none (k, l, f) = omega arith
  class_done atoms left o rows e (inr c) = c

-- the row of an object that is made of it
pub object_row : (structures : Structures) (learnt : Learnt) (atoms : List Specifier) (row : Row) (x : LispObject) (old new : List Row) (fresh : Bool)
    → MatchBool fresh (¬ Contains (signs_of old) row.signs) (Contains (signs_of old) row.signs) → new ≡ with_row fresh old row
    → IsObject structures x → IsPlain x → origin_object row.origin.value ≡ x → row.signs ≡ signs_at learnt atoms (plain x) → AddsRows structures learnt atoms (IsItself x) old new
object_row structures learnt atoms row x old new fresh is e object unmarked made signs =
    let same : row.signs ≡ signs_at learnt atoms x = signs ∙ ap (signs_at learnt atoms) unmarked in
    adds_row structures learnt atoms (IsItself x) old new row fresh is e
    (record { object = x; is_object = object; plain_form = unmarked ∙ sym made; signs = same })
    (λ o there f. same ∙ ap (signs_at learnt atoms) (sym (ap bare f ∙ bare_plain x unmarked)))

-- atoms that fit the structures of a file fit the other classes too
pub fit_atoms : (own : Structures) (atoms : List Spec) → AllByRecursion (IsFitIn own) atoms → AllByRecursion IsFit atoms
fit_atoms own [] h = tt
fit_atoms own (a ∷ atoms) h = ((h.0.0, h.0.1.1), fit_atoms own atoms h.1)
