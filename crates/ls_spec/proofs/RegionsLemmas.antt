-- What representatives decide.
use Rattle.std.proofs.Common.{sym, subst, List, ◌↔◌, true, false, Decides, refl}
use Rattle.std.specs.List.{AllByRecursion, Contains}
use Rattle.ls_object.specs.declared.object.Object.{Object}
use Rattle.ls_object.specs.Universe.{LispObject, Structures, IsObject, plain}
use Rattle.ls_object.specs.Meaning.{lisp_object}
use Rattle.ls_spec.specs.Regions.{IsRepresented, AreRepresentatives, IsPlainOf, IsInFirstOnly, IsInSecondIfFirst, IsIncludedWithin}
use Rattle.ls_spec.proofs.ListLemmas.{AllByRecursion-contains}

module _ {A : Type 0} (structures : Structures) (IsOfClass : LispObject → Type 0) (IsIn : A → LispObject → Type 0) (atoms : List A) (a b : A) where
  -- an object is in the second atom if it is in the first, where the representative of it is
  passes-represented : (answered : List Object) (o : LispObject) → Contains atoms a → Contains atoms b → AllByRecursion (λ r. IsPlainOf IsOfClass (lisp_object r)) answered
      → AllByRecursion (λ r. IsOfClass (lisp_object r) → IsInSecondIfFirst IsIn a b (plain (lisp_object r))) answered → IsRepresented IsIn atoms answered o → IsInSecondIfFirst IsIn a b (plain o)
  passes-represented answered o first second plains passes (r, there, same) h =
      let p : IsPlainOf IsOfClass (lisp_object r) = AllByRecursion-contains (λ r. IsPlainOf IsOfClass (lisp_object r)) answered r plains there in
      let step : IsOfClass (lisp_object r) → IsInSecondIfFirst IsIn a b (plain (lisp_object r)) = AllByRecursion-contains (λ r. IsOfClass (lisp_object r) → IsInSecondIfFirst IsIn a b (plain (lisp_object r))) answered r passes there in
      let same_a : IsIn a (lisp_object r) ↔ IsIn a (plain o) = AllByRecursion-contains (λ x. IsIn x (lisp_object r) ↔ IsIn x (plain o)) atoms a same first in
      let same_b : IsIn b (lisp_object r) ↔ IsIn b (plain o) = AllByRecursion-contains (λ x. IsIn x (lisp_object r) ↔ IsIn x (plain o)) atoms b same second in
      same_b.0 (subst (IsIn b) p.0 (step p.1 (subst (IsIn a) (sym p.0) (same_a.1 h))))

  -- where all representatives pass, every object of the class does
  pub IsIncludedWithin-passes : (answered : List Object) → Contains atoms a → Contains atoms b → AllByRecursion (λ r. IsPlainOf IsOfClass (lisp_object r)) answered
      → AreRepresentatives structures IsOfClass IsIn atoms answered → AllByRecursion (λ r. IsOfClass (lisp_object r) → IsInSecondIfFirst IsIn a b (plain (lisp_object r))) answered
      → Decides true (IsIncludedWithin structures IsOfClass IsIn a b)
  IsIncludedWithin-passes answered first second plains law passes =
      (λ _ o object covered. passes-represented answered o first second plains passes (law o object covered), λ _. refl)

  -- where a representative is in the first atom only, not every object is in the second
  pub IsIncludedWithin-outside : (r : LispObject) → IsObject structures r → IsOfClass r → IsInFirstOnly IsIn a b (plain r) → Decides false (IsIncludedWithin structures IsOfClass IsIn a b)
  IsIncludedWithin-outside r object covered outside = (λ e. cc, λ h. absurd (outside.1 (h r object covered outside.0)))
