use Rattle.std.proofs.Common.{◌≡◌, ℕ, true, false, refl, sym, ◌∙◌, subst, arith}
use Rattle.ls_object.specs.Universe.{LispObject, Structures}
use Rattle.ls_spec.specs.Specifier.{Specifier}
use Rattle.ls_spec.specs.Membership.{Belongs}
use Rattle.ls_spec.proofs.ApproximationLemmas.{low_within, within_high}
use Rattle.ls_spec.proofs.PlainLemmas.{bounded-no_predicate}
use Rattle.ls_decide.specs.declared.answer.Belongs.{Belongs as Belonging}
use Rattle.ls_decide.specs.declared.answer.Belongs.TheVariants as belongs
use Rattle.ls_decide.specs.Answers.{IsRightMembership}
use Rattle.ls_decide.proofs.laws.one_right_membership.Goals as goal

module _ (structures : Structures) (o : LispObject) (s : Specifier) (budget : ℕ) where
  abbrev IsRight : Belonging → Type 0
  IsRight x = IsRightMembership structures o s budget x

  one : (x y : Belonging) → IsRight x → IsRight y → x ≡ y
  one belongs.TooLarge belongs.TooLarge h k = refl
  one belongs.TooLarge belongs.Inside h k = absurd (omega (arith, h, k.0))
  one belongs.TooLarge belongs.Outside h k = absurd (omega (arith, h, k.0))
  one belongs.TooLarge belongs.Depends h k = absurd (omega (arith, h, k.0))
  one belongs.Inside belongs.TooLarge h k = absurd (omega (arith, h.0, k))
  one belongs.Inside belongs.Inside h k = refl
  one belongs.Inside belongs.Outside h k = absurd (k.1 (within_high structures s o (low_within structures s o h.1)))
  one belongs.Inside belongs.Depends h k = absurd (k.1 h.1)
  one belongs.Outside belongs.TooLarge h k = absurd (omega (arith, h.0, k))
  one belongs.Outside belongs.Inside h k = absurd (h.1 (within_high structures s o (low_within structures s o k.1)))
  one belongs.Outside belongs.Outside h k = refl
  one belongs.Outside belongs.Depends h k = absurd (h.1 k.2)
  one belongs.Depends belongs.TooLarge h k = absurd (omega (arith, h.0, k))
  one belongs.Depends belongs.Inside h k = absurd (h.1 k.1)
  one belongs.Depends belongs.Outside h k = absurd (k.1 h.2)
  one belongs.Depends belongs.Depends h k = refl

pub returns-clause-one : goal.returns-clause-one
returns-clause-one c = one

pub returns-clause-without_predicates : goal.returns-clause-without_predicates
returns-clause-without_predicates c structures o s budget free h =
    h.1 (subst (λ (t : Specifier). Belongs structures t o) (bounded-no_predicate true s free ∙ sym (bounded-no_predicate false s free)) h.2)
