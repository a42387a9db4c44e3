-- Two types in a table, with their bounds where predicates decide.
use Rattle.std.specs.Prelude.{◌≡◌, ◌<◌, true, false, ◌||◌, List, [], ◌∷◌, length, Option, Some, None}
use Rattle.ls_spec.specs.Specifier.{Specifier}
use Rattle.ls_spec.specs.Approximation.{low, high, has_free_predicate}
use Rattle.ls_lists.specs.Costs.{predicate_lists}
use Rattle.ls_intern.specs.Places.{at, specifiers_at, AllBelow}
use Rattle.ls_decide.specs.declared.answer.Answer.{Answer}
use Rattle.ls_decide.specs.declared.answer.Answer.TheVariants.{Yes, No, Unsure, TooLarge}
use Rattle.ls_decide.specs.declared.pairs.Pair.{Pair}
use Rattle.ls_decide.specs.declared.pairs.Pairs.{Pairs}
use Rattle.ls_decide.specs.Sessions.{pair_list}

-- the specifiers of a pair
abbrev pub first_of : List Specifier → Pair → Specifier
first_of known pair = at known pair.first

abbrev pub second_of : List Specifier → Pair → Specifier
second_of known pair = at known pair.second

-- these are its specifiers, and its list is the distinct list of both
pub record IsPairOf (known : List Specifier) (pair : Pair) (a b : Specifier) : Type 0 where
  pub first_within : pair.first < length known
  pub second_within : pair.second < length known
  pub below : AllBelow (length known) pair.list
  pub first_is : first_of known pair ≡ a
  pub second_is : second_of known pair ≡ b
  pub list_is : specifiers_at known pair.list ≡ pair_list a b

-- a pair of what surely belongs to the first type and what may belong to the second, where a predicate stands in one
-- of them outside element types
abbrev pub AreBoundsOf : List Specifier → Option Pair → Specifier → Specifier → Type 0
AreBoundsOf known None a b = (has_free_predicate a || has_free_predicate b) ≡ false
AreBoundsOf known (Some pair) a b =
    ((has_free_predicate a || has_free_predicate b) ≡ true) × IsPairOf known pair (low a) (high b)

-- the pair of these two, with its bounds
pub record ArePairsOf (known : List Specifier) (pairs : Pairs) (a b : Specifier) : Type 0 where
  pub own : IsPairOf known pairs.own a b
  pub bounds : AreBoundsOf known pairs.bounds a b

-- the lists that two types are compared by, in order
abbrev pub compared_lists : Specifier → Specifier → List (List Specifier)
compared_lists a b = pair_list a b ∷ predicate_lists a b

-- those that an answer rests on
abbrev pub lists_behind : Specifier → Specifier → Answer → List (List Specifier)
lists_behind a b TooLarge = []
lists_behind a b Yes = pair_list a b ∷ []
lists_behind a b (No o) = compared_lists a b
lists_behind a b (Unsure o) = compared_lists a b
