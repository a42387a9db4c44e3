-- The cost of a pair is what its lists cost, and what the codes of its element types cost.
use Rattle.std.proofs.Common.{◌≡◌, ℕ, ◌<◌, ◌≤◌, ◌-◌, ◌+◌, Option, Some, None, subst, ap, sym, ◌∙◌, List, [], ◌∷◌, map, arith}
use Rattle.std.specs.List.{flat_map, sum_by}
use Rattle.std.proofs.lemmas.List.Sums.{sum_by-cons}
use Rattle.ls_spec.specs.Specifier.{Specifier}
use Rattle.ls_spec.specs.Approximation.{low, high}
use Rattle.ls_spec.specs.Distinct.{distinct}
use Rattle.ls_lists.specs.Walks.{sum}
use Rattle.ls_lists.specs.Costs.{elements_in, element_lists, predicate_lists, pair_cost}
use Rattle.ls_intern.specs.Places.{specifiers_at}
use Rattle.ls_decide.specs.Answers.{TellsCost}
use Rattle.ls_decide.specs.Sessions.{element_list, pair_list}
use Rattle.ls_decide.specs.declared.pairs.Pair.{Pair}
use Rattle.ls_decide.specs.steps.Learning.{learning_cost}
use Rattle.ls_decide.specs.steps.Pairs.{first_of, second_of, IsPairOf, AreBoundsOf, compared_lists}
use Rattle.ls_decide.proofs.CostLemmas.{pair_cost_is}
use Rattle.ls_decide.proofs.InternLemmas.{both_named, lists_sure, lists_bounded}
use Rattle.ls_decide.proofs.LearnLemmas.{learning_cost_is, element_lists_are}

module _ (a b : Specifier) where
  whole : pair_cost a b ≡ sum_by sum (element_lists (a ∷ b ∷ [])) + sum_by sum (compared_lists a b)
  whole =
      let cost = pair_cost_is a b in
      let own = sum_by-cons sum (distinct (a ∷ b ∷ [])) (predicate_lists a b) in
      omega (arith, cost, own)

  -- what learning the element types costs is part of it
  part : (elements : List Specifier) → elements ≡ distinct (flat_map elements_in (a ∷ b ∷ [])) → learning_cost elements ≡ sum_by sum (element_lists (a ∷ b ∷ []))
  part elements e = sym (learning_cost_is elements) ∙ ap (sum_by sum) (ap (map element_list) e ∙ sym (element_lists_are (a ∷ b ∷ [])))

  -- the lists by which the two are compared pass the budget
  pub lists_pass : (budget : ℕ) → budget < sum_by sum (compared_lists a b) → budget < pair_cost a b
  lists_pass budget h = let cost = whole in omega (arith, cost, h)

  -- or the element types pass what these leave of it
  pub elements_pass : (budget n : ℕ) (elements : List Specifier) → elements ≡ distinct (flat_map elements_in (a ∷ b ∷ []))
      → TellsCost budget (sum_by sum (compared_lists a b)) (Some n) → budget - n < learning_cost elements → budget < pair_cost a b
  elements_pass budget n elements e t h =
      let cost = whole in
      let learning = part elements e in
      omega (arith, cost, learning, t.0, t.1, h)

  -- or all is within it
  pub all_within : (budget n : ℕ) (elements : List Specifier) → elements ≡ distinct (flat_map elements_in (a ∷ b ∷ []))
      → TellsCost budget (sum_by sum (compared_lists a b)) (Some n) → learning_cost elements ≤ budget - n → pair_cost a b ≤ budget
  all_within budget n elements e t h =
      let cost = whole in
      let learning = part elements e in
      omega (arith, cost, learning, t.0, t.1, h)

-- ---- what the lists cost by which two types are compared

-- the list of a pair, by its numbers in a table
pub pair_told : (known : List Specifier) (slice : List ℕ) (pair : Pair) (a b : Specifier) (budget : ℕ) (told : Option ℕ) → IsPairOf known pair a b → slice ≡ pair.list
    → TellsCost budget (sum (specifiers_at known slice)) told → TellsCost budget (sum (pair_list a b)) told
pair_told known slice pair a b budget told is e h = subst (λ (list : List Specifier). TellsCost budget (sum list) told) (ap (specifiers_at known) e ∙ is.list_is) h

module _ (known : List Specifier) (a b : Specifier) (budget own : ℕ) (first : TellsCost budget (sum (pair_list a b)) (Some own)) where
  -- it is all where no predicate decides
  pub sure_told : AreBoundsOf known None a b → TellsCost budget (sum_by sum (compared_lists a b)) (Some own)
  sure_told free =
      let e = ap (sum_by sum) (lists_sure a b free) in
      let f = sum_by-cons sum (pair_list a b) [] in
      (omega (arith, e, f, first.0), omega (arith, e, f, first.1))

  bounded_cost : (pair : Pair) → AreBoundsOf known (Some pair) a b → sum_by sum (compared_lists a b) ≡ sum (pair_list a b) + sum (pair_list (low a) (high b))
  bounded_cost pair are =
      let e = ap (sum_by sum) (lists_bounded a b are.0) in
      let f = sum_by-cons sum (pair_list a b) (pair_list (low a) (high b) ∷ []) in
      let g = sum_by-cons sum (pair_list (low a) (high b)) [] in
      omega (arith, e, f, g)

  -- or the list of the bounds passes what it leaves of the budget
  pub bounds_pass : (pair : Pair) → AreBoundsOf known (Some pair) a b → TellsCost (budget - own) (sum (pair_list (low a) (high b))) None → TellsCost budget (sum_by sum (compared_lists a b)) None
  bounds_pass pair are more = let e = bounded_cost pair are in omega (arith, e, first.0, first.1, more)

  -- or it counts too
  pub bounds_told : (pair : Pair) (n : ℕ) → AreBoundsOf known (Some pair) a b → TellsCost (budget - own) (sum (pair_list (low a) (high b))) (Some n)
      → TellsCost budget (sum_by sum (compared_lists a b)) (Some (own + n))
  bounds_told pair n are more =
      let e = bounded_cost pair are in
      (omega (arith, e, first.0, first.1, more.0, more.1), omega (arith, e, first.0, first.1, more.0, more.1))

-- what the lists of a pair cost, in a table that was lent
pub lists_told : (lent known : List Specifier) (pair : Pair) (a b : Specifier) (budget : ℕ) (told : Option ℕ) → IsPairOf known pair a b → lent ≡ known
    → TellsCost budget (sum_by sum (compared_lists (first_of lent pair) (second_of lent pair))) told → TellsCost budget (sum_by sum (compared_lists a b)) told
lists_told lent known pair a b budget told is e h =
    both_named (λ s t. TellsCost budget (sum_by sum (compared_lists s t)) told) (first_of lent pair) (second_of lent pair) a b (ap (λ (k : List Specifier). first_of k pair) e ∙ is.first_is)
    (ap (λ (k : List Specifier). second_of k pair) e ∙ is.second_is) h
