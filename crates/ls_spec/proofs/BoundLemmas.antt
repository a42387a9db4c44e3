-- Approximations of lists of specifiers, and specifiers without predicates.
use Rattle.std.proofs.Common.{◌≡◌, ◌∙◌, ap, refl, Bool, not, true, false, ◌||◌, Decides, List, [], ◌∷◌, map}
use Rattle.ls_spec.specs.declared.spec.Spec.{Spec}
use Rattle.ls_spec.specs.Meaning.{specifier, specifiers, specifiers_of}
use Rattle.ls_spec.specs.Specifier.{Specifier, and_of, or_of, not_of, cons_of, satisfies, Specifiers, no_more, also}
use Rattle.ls_spec.specs.Approximation.{bounded, bounded_all, HasNoPredicate, HaveNoPredicate, has_free_predicate, some_has_free_predicate}

-- the approximations of a list are those of its elements
pub bounded_all-each : (upper : Bool) (made specs : List Spec)
    → map specifier made ≡ map (λ s. bounded upper (specifier s)) specs → specifiers made ≡ bounded_all upper (specifiers specs)
bounded_all-each upper made specs e = ap specifiers_of e ∙ of_each specs
  where
    of_each : (ss : List Spec) → specifiers_of (map (λ s. bounded upper (specifier s)) ss) ≡ bounded_all upper (specifiers ss)
    of_each [] = refl
    of_each (s ∷ ss) = ap (also (bounded upper (specifier s))) (of_each ss)

-- neither of two tests is true where both are false
Decides-neither : {P Q : Type 0} (a b : Bool) → Decides (not a) P → Decides (not b) Q → Decides (not (a || b)) (P × Q)
Decides-neither true b p q = (λ e. cc, λ h. p.1 h.0)
Decides-neither false b p q = (λ e. (p.0 refl, q.0 e), λ h. q.1 h.1)

mutual
  -- no predicate is found where none stands outside element types
  pub Decides-no_predicate : (s : Specifier) → Decides (not (has_free_predicate s)) (HasNoPredicate s)
  Decides-no_predicate (and_of ss) = Decides-no_predicates ss
  Decides-no_predicate (or_of ss) = Decides-no_predicates ss
  Decides-no_predicate (not_of s) = Decides-no_predicate s
  Decides-no_predicate (cons_of a b) = Decides-neither (has_free_predicate a) (has_free_predicate b) (Decides-no_predicate a) (Decides-no_predicate b)
  Decides-no_predicate (satisfies p) = (λ e. cc, λ h. absurd h)
  Decides-no_predicate _ = (λ _. tt, λ _. refl)

  Decides-no_predicates : (ss : Specifiers) → Decides (not (some_has_free_predicate ss)) (HaveNoPredicate ss)
  Decides-no_predicates no_more = (λ _. tt, λ _. refl)
  Decides-no_predicates (also s ss) = Decides-neither (has_free_predicate s) (some_has_free_predicate ss) (Decides-no_predicate s) (Decides-no_predicates ss)
