-- What a decision makes, and what it costs: the element types first, and then the list of the pair.
use Rattle.std.proofs.Common.{ℕ, ◌≡◌, ◌≤◌, ◌+◌, refl, sym, ◌∙◌, ap, subst, List, [], ◌∷◌, ◌++◌, append-nil, length, map, Bool, true, false, ◌||◌, Option, Some, None, All, fold, true≢false}
use Rattle.std.specs.Prelude.{MatchBool, MatchOption}
use Rattle.std.specs.List.{AllByRecursion, flat_map, sum_by}
use Rattle.std.proofs.lemmas.List.Elements.{All-from_recursion, recursion_from_All}
use Rattle.ls_object.specs.declared.table.Code.{Code}
use Rattle.ls_object.specs.Universe.{Structures}
use Rattle.ls_spec.specs.declared.spec.DimPattern.TheVariants as dimensions
use Rattle.ls_spec.specs.Specifier.{Specifier, array_of}
use Rattle.ls_spec.specs.Approximation.{low, high, has_free_predicate}
use Rattle.ls_spec.specs.Membership.{UpgradesTo}
use Rattle.ls_spec.specs.Distinct.{distinct, with_new}
use Rattle.ls_spec.specs.Fits.{Fits}
use Rattle.ls_spec.proofs.AlikeLemmas.{AllByRecursion-front, AllByRecursion-back}
use Rattle.ls_spec.proofs.DistinctLemmas.{all_from_distinct, all_of_distinct}
use Rattle.ls_spec.proofs.ListLemmas.{AllByRecursion-append}
use Rattle.ls_lists.specs.Walks.{sum, IsClosed}
use Rattle.ls_lists.specs.Costs.{elements_in, element_lists, pair_cost, pair_lists, upgrade_cost, upgrade_lists}
use Rattle.ls_intern.specs.Places.{at, specifiers_at, AllBelow}
use Rattle.ls_cells.specs.Codes.{Codes, IsKnown}
use Rattle.ls_cells.specs.Kept.{Entries, lists, Grows}
use Rattle.ls_decide.specs.Answers.{IsUpgraded}
use Rattle.ls_decide.specs.Sessions.{element_list, pair_list, Works, HasMade, HasUpgraded}
use Rattle.ls_decide.specs.declared.pairs.Pair.{Pair}
use Rattle.ls_decide.specs.steps.Pairs.{first_of, second_of, IsPairOf, compared_lists}
use Rattle.ls_decide.proofs.InternLemmas.{both_named, lists_bounded}
use Rattle.ls_decide.specs.steps.Learning.{AreInnerFirst, learning_cost}
use Rattle.ls_decide.proofs.LearnLemmas.{elements_inner, elements_have_fit, element_lists_are, learning_cost_is}
use Rattle.ls_decide.proofs.WorkLemmas.{Works-front, Works-both, HasMade-both, steps-within_cost}

-- one of two, by a truth value
pub when_not : (P Q : Type 0) (b : Bool) → MatchBool b P Q → b ≡ false → Q
when_not P Q true m e = absurd (true≢false e)
when_not P Q false m e = m

pub when_so : (P Q : Type 0) (b : Bool) → MatchBool b P Q → b ≡ true → P
when_so P Q true m e = m
when_so P Q false m e = absurd (true≢false (sym e))

-- numbers that are below the length of a table that was lent
pub below_lent : (lent known : List Specifier) (slice ids : List ℕ) → lent ≡ known → slice ≡ ids → AllBelow (length lent) ids → AllBelow (length known) slice
below_lent lent known slice ids e f h = subst (AllBelow (length known)) (sym f) (subst (λ (k : List Specifier). AllBelow (length k) ids) e h)

-- ---- a pair

module _ (a b : Specifier) (elements : List Specifier) (is : elements ≡ distinct (flat_map elements_in (a ∷ b ∷ []))) where
  these : map element_list elements ≡ element_lists (a ∷ b ∷ [])
  these = ap (map element_list) is ∙ sym (element_lists_are (a ∷ b ∷ []))

  -- some of the element types were learnt, or all
  pub works_learnt : (old same new : Entries) (before now : ℕ) → same ≡ old → Works (map element_list elements) same new before now → Works (pair_lists a b) old new before now
  works_learnt old same new before now e w =
      subst (λ (es : Entries). Works (pair_lists a b) es new before now) e
      (Works-front (element_lists (a ∷ b ∷ [])) (compared_lists a b) same new before now (subst (λ ls. Works ls same new before now) these w))

  -- and then the two were compared
  pub works_whole : (old same mid new : Entries) (before between now : ℕ) → same ≡ old → Works (map element_list elements) same mid before between
      → HasMade (map element_list elements) same mid → Works (compared_lists a b) mid new between now → Works (pair_lists a b) old new before now
  works_whole old same mid new before between now e w made v =
      subst (λ (es : Entries). Works (pair_lists a b) es new before now) e
      (Works-both (element_lists (a ∷ b ∷ [])) (compared_lists a b) same mid new before between now (subst (λ ls. Works ls same mid before between) these w)
      (subst (λ ls. HasMade ls same mid) these made).walked v)

  pub made_whole : (ls : List (List Specifier)) (old same mid new : Entries) → same ≡ old → HasMade (map element_list elements) same mid → Grows mid new → HasMade ls mid new
      → HasMade (element_lists (a ∷ b ∷ []) ++ ls) old new
  made_whole ls old same mid new e made grows more =
      subst (λ (es : Entries). HasMade (element_lists (a ∷ b ∷ []) ++ ls) es new) e
      (HasMade-both (element_lists (a ∷ b ∷ [])) ls same mid new (subst (λ ls. HasMade ls same mid) these made) grows more)

-- the steps are within the cost of the pair
pub cost_decided : (a b : Specifier) (old new : Entries) (before now : ℕ) → IsClosed (lists old) → Works (pair_lists a b) old new before now → now ≤ before + pair_cost a b
unfolding pair_cost
cost_decided a b old new before now closed w = steps-within_cost (pair_lists a b) old before now closed w.steps

-- the element types of a pair, by their numbers in a table that was lent
pub elements_listed : (lent known : List Specifier) (slice ids : List ℕ) (pair : Pair) (a b : Specifier) → IsPairOf known pair a b → lent ≡ known → slice ≡ ids
    → specifiers_at lent ids ≡ distinct (flat_map elements_in (specifiers_at lent (pair.first ∷ pair.second ∷ []))) → specifiers_at known slice ≡ distinct (flat_map elements_in (a ∷ b ∷ []))
elements_listed lent known slice ids pair a b is e f are =
    ap (specifiers_at known) f ∙ subst (λ (k : List Specifier). specifiers_at k ids ≡ distinct (flat_map elements_in (specifiers_at k (pair.first ∷ pair.second ∷ [])))) e are
    ∙ both_named (λ s t. distinct (flat_map elements_in (first_of known pair ∷ second_of known pair ∷ [])) ≡ distinct (flat_map elements_in (s ∷ t ∷ []))) (first_of known pair) (second_of known pair) a b is.first_is is.second_is refl

-- the bounds were compared behind the two themselves
module _ (a b : Specifier) (free : (has_free_predicate a || has_free_predicate b) ≡ true) (x y : Specifier) (is_low : x ≡ low a) (is_high : y ≡ high b) where
  both_lists : pair_list a b ∷ pair_list x y ∷ [] ≡ compared_lists a b
  both_lists = both_named (λ s t. pair_list a b ∷ pair_list s t ∷ [] ≡ compared_lists a b) (low a) (high b) x y (sym is_low) (sym is_high) (sym (lists_bounded a b free))

  pub works_bounded : (old mid new : Entries) (before between now : ℕ) → Works (pair_list a b ∷ []) old mid before between → HasMade (pair_list a b ∷ []) old mid → Works (pair_list x y ∷ []) mid new between now
      → Works (compared_lists a b) old new before now
  works_bounded old mid new before between now w made v =
      subst (λ ls. Works ls old new before now) both_lists (Works-both (pair_list a b ∷ []) (pair_list x y ∷ []) old mid new before between now w made.walked v)

  pub made_bounded : (old mid new : Entries) → HasMade (pair_list a b ∷ []) old mid → Grows mid new → HasMade (pair_list x y ∷ []) mid new → HasMade (compared_lists a b) old new
  made_bounded old mid new made grows more = subst (λ ls. HasMade ls old new) both_lists (HasMade-both (pair_list a b ∷ []) (pair_list x y ∷ []) old mid new made grows more)

-- ---- one element type

abbrev vector_of : Specifier → Specifier
vector_of e = array_of e false (dimensions.Places (None ∷ []))

abbrev pub vector_elements : Specifier → List Specifier
vector_elements e = distinct (flat_map elements_in (vector_of e ∷ []))

fold_append : {X Y : Type 0} (f : Y → X → Y) (z : Y) (xs ys : List X) → fold f z (xs ++ ys) ≡ fold f (fold f z xs) ys
fold_append f z [] ys = refl
fold_append f z (x ∷ xs) ys = fold_append f (f z x) xs ys

-- the element types in it, and itself behind them
pub vector_elements_are : (e : Specifier) (inner elements : List Specifier) → inner ≡ distinct (flat_map elements_in (e ∷ [])) → elements ≡ fold with_new inner (e ∷ []) → elements ≡ vector_elements e
vector_elements_are e inner elements f g =
    g ∙ ap (λ (l : List Specifier). fold with_new l (e ∷ [])) (f ∙ ap distinct (append-nil (elements_in e)))
    ∙ sym (fold_append with_new [] (elements_in e) (e ∷ [])) ∙ ap distinct (sym (append-nil (elements_in e ++ e ∷ [])))

all_of_vector : (P : Specifier → Type 0) (e : Specifier) → AllByRecursion P (elements_in e) → P e → All P (vector_elements e)
all_of_vector P e inner one =
    All-from_recursion P (vector_elements e)
    (all_of_distinct P (flat_map elements_in (vector_of e ∷ [])) (AllByRecursion-append P (elements_in e ++ e ∷ []) [] (AllByRecursion-append P (elements_in e) (e ∷ []) inner (one, tt)) tt))

pub vector_fit : (structures : Structures) (e : Specifier) → Fits structures e → All (Fits structures) (vector_elements e)
vector_fit structures e h = all_of_vector (Fits structures) e (elements_have_fit structures e h) h

those : (e : Specifier) → map element_list (vector_elements e) ≡ upgrade_lists e
those e = sym (element_lists_are (vector_of e ∷ []))

-- the same by their numbers in a table that was lent twice
pub vector_listed : (lent again known : List Specifier) (ids old new slice : List ℕ) (id : ℕ) (e : Specifier) → lent ≡ known → again ≡ known → slice ≡ new → old ≡ ids → at known id ≡ e
    → specifiers_at lent ids ≡ distinct (flat_map elements_in (specifiers_at lent (id ∷ []))) → specifiers_at again new ≡ fold with_new (specifiers_at again old) (at again id ∷ []) → specifiers_at known slice ≡ vector_elements e
vector_listed lent again known ids old new slice id e f g s o is inner added =
    ap (specifiers_at known) s
    ∙ vector_elements_are e (specifiers_at known ids) (specifiers_at known new)
    (subst (λ (k : List Specifier). specifiers_at k ids ≡ distinct (flat_map elements_in (specifiers_at k (id ∷ [])))) f inner ∙ ap (λ (x : Specifier). distinct (flat_map elements_in (x ∷ []))) is)
    (subst (λ (k : List Specifier). specifiers_at k new ≡ fold with_new (specifiers_at k old) (at k id ∷ [])) g added ∙ ap (λ (l : List ℕ). fold with_new (specifiers_at known l) (at known id ∷ [])) o
    ∙ ap (λ (x : Specifier). fold with_new (specifiers_at known ids) (x ∷ [])) is)

pub vector_inner : (e : Specifier) → AreInnerFirst (vector_elements e)
vector_inner e = elements_inner (vector_of e ∷ [])

-- what upgrading makes and costs is what learning them does
pub works_upgraded : (e : Specifier) (elements : List Specifier) (old same new : Entries) (before now : ℕ) → elements ≡ vector_elements e → same ≡ old → Works (map element_list elements) same new before now
    → Works (upgrade_lists e) old new before now
works_upgraded e elements old same new before now is f w =
    subst (λ (es : Entries). Works (upgrade_lists e) es new before now) f (subst (λ ls. Works ls same new before now) (ap (map element_list) is ∙ those e) w)

pub made_upgraded : (e : Specifier) (elements : List Specifier) (old same new : Entries) → elements ≡ vector_elements e → same ≡ old → HasMade (map element_list elements) same new → HasMade (upgrade_lists e) old new
made_upgraded e elements old same new is f made =
    subst (λ (es : Entries). HasMade (upgrade_lists e) es new) f (subst (λ ls. HasMade ls same new) (ap (map element_list) is ∙ those e) made)

pub upgrade_cost_is : (e : Specifier) (elements : List Specifier) → elements ≡ vector_elements e → learning_cost elements ≡ upgrade_cost e
unfolding upgrade_cost
upgrade_cost_is e elements is = sym (learning_cost_is elements) ∙ ap (sum_by sum) (ap (map element_list) is ∙ those e)

pub cost_upgraded : (e : Specifier) (old new : Entries) (before now : ℕ) → IsClosed (lists old) → Works (upgrade_lists e) old new before now → now ≤ before + upgrade_cost e
unfolding upgrade_cost
cost_upgraded e old new before now closed w = steps-within_cost (upgrade_lists e) old before now closed w.steps

abbrev IsTold : Structures → Specifier → Codes → Option Code → Type 0
IsTold structures e codes found = MatchOption found (¬ IsKnown codes e) (λ code. IsKnown codes e × UpgradesTo structures e code.index)

-- what a store tells of an element type, by other names
pub upgraded_told : (same structures : Structures) (s e : Specifier) (codes : Codes) (found : Option Code) → same ≡ structures → s ≡ e → IsTold same s codes found → IsTold structures e codes found
upgraded_told same structures s e codes found f g told =
    subst (λ (x : Specifier). IsTold structures x codes found) g (subst (λ (t : Structures). IsTold t s codes found) f told)

-- the code that a store has learnt
pub upgraded_right : (structures : Structures) (e : Specifier) (codes : Codes) (budget : ℕ) (found : Option Code) → IsTold structures e codes found → IsKnown codes e → upgrade_cost e ≤ budget
    → IsUpgraded structures e budget found
upgraded_right structures e codes budget None told known within = absurd (told known)
upgraded_right structures e codes budget (Some code) told known within = (within, told.1)

pub upgraded_done : (structures : Structures) (e : Specifier) (codes : Codes) (ls : List (List Specifier)) (old new : Entries) (before now : ℕ) (found : Option Code) → IsTold structures e codes found → IsKnown codes e
    → HasMade ls old new → HasUpgraded ls old new before now found
upgraded_done structures e codes ls old new before now None told known made = absurd (told known)
upgraded_done structures e codes ls old new before now (Some code) told known made = made

-- itself is among them
pub known_itself : (codes : Codes) (e : Specifier) → All (IsKnown codes) (vector_elements e) → IsKnown codes e
known_itself codes e all =
    let each = all_from_distinct (IsKnown codes) (flat_map elements_in (vector_of e ∷ [])) (recursion_from_All (IsKnown codes) (vector_elements e) all) in
    (AllByRecursion-back (IsKnown codes) (elements_in e) (e ∷ []) (AllByRecursion-front (IsKnown codes) (elements_in e ++ e ∷ []) [] each)).0
