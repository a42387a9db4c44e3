-- Pairs of types in a table, by other names and once the table grew.
use Rattle.std.proofs.Common.{◌≡◌, ◌||◌, if◌then◌else◌, sym, subst, ◌∙◌, ap, Bool, true, false, List, [], ◌∷◌, Option, Some, None}
use Rattle.ls_object.specs.Universe.{Structures}
use Rattle.ls_spec.specs.Specifier.{Specifier}
use Rattle.ls_spec.specs.Approximation.{low, high, has_free_predicate}
use Rattle.ls_spec.specs.Distinct.{distinct}
use Rattle.ls_spec.specs.Fits.{Fits}
use Rattle.ls_lists.specs.Costs.{predicate_lists}
use Rattle.ls_intern.specs.Places.{Extends}
use Rattle.ls_intern.proofs.PlaceLemmas.{below_grown, at_grown, all_below_grown, specifiers_grown}
use Rattle.ls_cells.specs.Codes.{Codes, HasCodes}
use Rattle.ls_decide.specs.declared.pairs.Pair.{Pair}
use Rattle.ls_decide.specs.declared.pairs.Pairs.{Pairs}
use Rattle.ls_decide.specs.Sessions.{pair_list}
use Rattle.ls_decide.specs.steps.Pairs.{first_of, second_of, IsPairOf, AreBoundsOf, ArePairsOf, compared_lists}
use Rattle.ls_decide.proofs.BoundedLemmas.{bounded-fits, bounded-codes}

-- what holds of two specifiers holds of them by other names
pub both_named : (P : Specifier → Specifier → Type 0) (x y a b : Specifier) → x ≡ a → y ≡ b → P x y → P a b
both_named P x y a b e f h = subst (λ (s : Specifier). P s b) e (subst (λ (s : Specifier). P x s) f h)

-- ---- in a table that grew since

pub pair_grown : (known grown : List Specifier) (pair : Pair) (a b : Specifier) → Extends known grown → IsPairOf known pair a b → IsPairOf grown pair a b
pair_grown known grown pair a b grows is = record {
  first_within = below_grown known grown pair.first grows is.first_within;
  second_within = below_grown known grown pair.second grows is.second_within;
  below = all_below_grown known grown pair.list grows is.below;
  first_is = at_grown known grown pair.first grows is.first_within ∙ is.first_is;
  second_is = at_grown known grown pair.second grows is.second_within ∙ is.second_is;
  list_is = specifiers_grown known grown pair.list grows is.below ∙ is.list_is;
}

bounds_grown : (known grown : List Specifier) (bounds : Option Pair) (a b : Specifier) → Extends known grown → AreBoundsOf known bounds a b → AreBoundsOf grown bounds a b
bounds_grown known grown None a b grows are = are
bounds_grown known grown (Some pair) a b grows are = (are.0, pair_grown known grown pair (low a) (high b) grows are.1)

pub pairs_grown : (known grown : List Specifier) (pairs : Pairs) (a b : Specifier) → Extends known grown → ArePairsOf known pairs a b → ArePairsOf grown pairs a b
pairs_grown known grown pairs a b grows are =
    record { own = pair_grown known grown pairs.own a b grows are.own; bounds = bounds_grown known grown pairs.bounds a b grows are.bounds }

-- ---- of their own specifiers

pub pair_own : (known : List Specifier) (pair : Pair) (a b : Specifier) → IsPairOf known pair a b → IsPairOf known pair (first_of known pair) (second_of known pair)
pair_own known pair a b is = both_named (IsPairOf known pair) a b (first_of known pair) (second_of known pair) (sym is.first_is) (sym is.second_is) is

pub pairs_own : (known : List Specifier) (pairs : Pairs) (a b : Specifier) → ArePairsOf known pairs a b → ArePairsOf known pairs (first_of known pairs.own) (second_of known pairs.own)
pairs_own known pairs a b are =
    both_named (ArePairsOf known pairs) a b (first_of known pairs.own) (second_of known pairs.own) (sym are.own.first_is) (sym are.own.second_is) are

-- ---- what a pair needs before it is decided

pub record IsReady (structures : Structures) (codes : Codes) (known : List Specifier) (pair : Pair) : Type 0 where
  pub is : IsPairOf known pair (first_of known pair) (second_of known pair)
  pub first_fits : Fits structures (first_of known pair)
  pub second_fits : Fits structures (second_of known pair)
  pub first_learnt : HasCodes codes (first_of known pair)
  pub second_learnt : HasCodes codes (second_of known pair)

pub pair_ready : (structures : Structures) (codes : Codes) (known : List Specifier) (pair : Pair) (a b : Specifier) → IsPairOf known pair a b → Fits structures a → Fits structures b
    → HasCodes codes a → HasCodes codes b → IsReady structures codes known pair
pair_ready structures codes known pair a b is a_fits b_fits a_coded b_coded = record {
  is = pair_own known pair a b is;
  first_fits = subst (Fits structures) (sym is.first_is) a_fits;
  second_fits = subst (Fits structures) (sym is.second_is) b_fits;
  first_learnt = subst (HasCodes codes) (sym is.first_is) a_coded;
  second_learnt = subst (HasCodes codes) (sym is.second_is) b_coded;
}

-- the bounds need nothing more
pub bounds_ready : (structures : Structures) (codes : Codes) (known : List Specifier) (pair : Pair) (a b : Specifier) → IsPairOf known pair (low a) (high b) → Fits structures a → Fits structures b
    → HasCodes codes a → HasCodes codes b → IsReady structures codes known pair
bounds_ready structures codes known pair a b is a_fits b_fits a_coded b_coded =
    pair_ready structures codes known pair (low a) (high b) is (bounded-fits structures false a a_fits) (bounded-fits structures true b b_fits)
    (bounded-codes codes false a a_coded) (bounded-codes codes true b b_coded)

-- nothing changed since
pub ready_same : (structures structures_now : Structures) (codes codes_now : Codes) (known known_now : List Specifier) (pair : Pair) → structures_now ≡ structures → codes_now ≡ codes → known_now ≡ known
    → IsReady structures codes known pair → IsReady structures_now codes_now known_now pair
ready_same structures structures_now codes codes_now known known_now pair e f g is =
    subst (λ (k : List Specifier). IsReady structures_now codes_now k pair) (sym g)
    (subst (λ (c : Codes). IsReady structures_now c known pair) (sym f) (subst (λ (s : Structures). IsReady s codes known pair) (sym e) is))

-- ---- the lists that two types are compared by

-- of their own alone where no predicate decides
pub lists_sure : (a b : Specifier) → (has_free_predicate a || has_free_predicate b) ≡ false → compared_lists a b ≡ pair_list a b ∷ []
unfolding predicate_lists
lists_sure a b e = ap (λ (free : Bool). pair_list a b ∷ (if free then distinct (low a ∷ high b ∷ []) ∷ [] else [])) e

-- and otherwise of their bounds too
pub lists_bounded : (a b : Specifier) → (has_free_predicate a || has_free_predicate b) ≡ true → compared_lists a b ≡ pair_list a b ∷ pair_list (low a) (high b) ∷ []
unfolding predicate_lists
lists_bounded a b e = ap (λ (free : Bool). pair_list a b ∷ (if free then distinct (low a ∷ high b ∷ []) ∷ [] else [])) e
