-- How element types are learnt.
use Rattle.std.specs.Prelude.{ℕ, ◌≡◌, ◌≤◌, ◌<◌, List, [], ◌∷◌, ◌++◌, map, All}
use Rattle.std.specs.List.{AllByRecursion, Contains, sum_by}
use Rattle.ls_object.specs.Universe.{Structures}
use Rattle.ls_spec.specs.Specifier.{Specifier}
use Rattle.ls_lists.specs.Walks.{sum}
use Rattle.ls_lists.specs.Costs.{elements_in}
use Rattle.ls_cells.specs.Codes.{Codes, IsKnown}
use Rattle.ls_cells.specs.Kept.{Entries, Grows}
use Rattle.ls_decide.specs.Sessions.{element_list, Works, HasMade}

-- each specifier of a list stands behind all element types in it, or these were seen
abbrev pub AreInnerPast : List Specifier → List Specifier → Type 0
AreInnerPast seen [] = Unit {0}
AreInnerPast seen (e ∷ list) = AllByRecursion (Contains seen) (elements_in e) × AreInnerPast (seen ++ e ∷ []) list

abbrev pub AreInnerFirst : List Specifier → Type 0
AreInnerFirst list = AreInnerPast [] list

-- what the codes of element types cost together
abbrev pub learning_cost : List Specifier → ℕ
learning_cost elements = sum_by (λ e. sum (element_list e)) elements

-- their codes are known, which was within the budget
pub record HasLearnt (elements : List Specifier) (budget : ℕ) (codes : Codes) (old new : Entries) : Type 0 where
  pub within : learning_cost elements ≤ budget
  pub known : All (IsKnown codes) elements
  pub made : HasMade (map element_list elements) old new

-- that was not within the budget, and nothing was made
pub record HasPassed (elements : List Specifier) (budget : ℕ) (old new : Entries) (before now : ℕ) : Type 0 where
  pub passes : budget < learning_cost elements
  pub same : new ≡ old
  pub still : now ≡ before

-- what has come of a store once the codes of some element types were learnt
pub record HasTaken (structures_before structures_now : Structures) (known_before known_now : List Specifier)
    (codes_before codes_now : Codes) (old new : Entries) (before now : ℕ) (elements : List Specifier) : Type 0 where
  pub structures : structures_now ≡ structures_before
  pub specifiers : known_now ≡ known_before
  pub codes : Grows codes_before codes_now
  pub known : All (IsKnown codes_now) elements
  pub works : Works (map element_list elements) old new before now
  pub made : HasMade (map element_list elements) old new
