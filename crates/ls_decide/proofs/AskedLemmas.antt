-- What it makes and costs to ask whether an object belongs to a type: its element types are learnt.
use Rattle.std.proofs.Common.{ℕ, ◌≡◌, ◌≤◌, ◌+◌, sym, ◌∙◌, ap, subst, List, [], ◌∷◌, map, All}
use Rattle.std.specs.List.{flat_map, sum_by}
use Rattle.std.proofs.lemmas.List.Elements.{recursion_from_All}
use Rattle.ls_object.specs.Universe.{LispObject, Structures}
use Rattle.ls_spec.specs.Specifier.{Specifier}
use Rattle.ls_spec.specs.Distinct.{distinct}
use Rattle.ls_spec.specs.Fits.{Fits}
use Rattle.ls_spec.proofs.AlikeLemmas.{AllByRecursion-front}
use Rattle.ls_spec.proofs.DistinctLemmas.{all_from_distinct}
use Rattle.ls_lists.specs.Walks.{sum, IsClosed}
use Rattle.ls_lists.specs.Costs.{elements_in, type_cost, type_lists}
use Rattle.ls_intern.specs.Places.{at, specifiers_at}
use Rattle.ls_cells.specs.Codes.{Codes, IsKnown, HasCodes}
use Rattle.ls_cells.specs.Kept.{Entries, lists}
use Rattle.ls_decide.specs.declared.answer.Belongs.{Belongs as Belonging}
use Rattle.ls_decide.specs.declared.answer.Belongs.TheVariants as belongs
use Rattle.ls_decide.specs.Answers.{IsRightMembership}
use Rattle.ls_decide.specs.Sessions.{element_list, Works, HasMade, HasAsked, IsPaid}
use Rattle.ls_decide.specs.steps.Belonging.{IsRightAsked}
use Rattle.ls_decide.specs.steps.Learning.{AreInnerFirst, learning_cost}
use Rattle.ls_decide.proofs.LearnLemmas.{elements_fit, elements_inner, element_lists_are, learning_cost_is, known_codes}
use Rattle.ls_decide.proofs.WorkLemmas.{IsPaid-same, steps-within_cost}

-- the element types in a type
abbrev pub type_elements : Specifier → List Specifier
type_elements s = distinct (flat_map elements_in (s ∷ []))

-- by their numbers in a table that was lent
pub type_listed : (lent known : List Specifier) (ids slice : List ℕ) (id : ℕ) (s : Specifier) → lent ≡ known → slice ≡ ids → at known id ≡ s
    → specifiers_at lent ids ≡ distinct (flat_map elements_in (specifiers_at lent (id ∷ []))) → specifiers_at known slice ≡ type_elements s
type_listed lent known ids slice id s e f is are =
    ap (specifiers_at known) f ∙ subst (λ (k : List Specifier). specifiers_at k ids ≡ distinct (flat_map elements_in (specifiers_at k (id ∷ [])))) e are ∙ ap (λ (x : Specifier). type_elements x) is

-- they fit, and each stands behind those in it
pub type_fit : (structures : Structures) (s : Specifier) → Fits structures s → All (Fits structures) (type_elements s)
type_fit structures s h = elements_fit structures (s ∷ []) (h, tt)

pub type_inner : (s : Specifier) → AreInnerFirst (type_elements s)
type_inner s = elements_inner (s ∷ [])

-- where they are known, the type has its codes
pub type_coded : (codes : Codes) (s : Specifier) → All (IsKnown codes) (type_elements s) → HasCodes codes s
type_coded codes s all =
    known_codes codes s (AllByRecursion-front (IsKnown codes) (elements_in s) [] (all_from_distinct (IsKnown codes) (flat_map elements_in (s ∷ [])) (recursion_from_All (IsKnown codes) (type_elements s) all)))

module _ (s : Specifier) (elements : List Specifier) (is : elements ≡ type_elements s) where
  these : map element_list elements ≡ type_lists s
  these = ap (map element_list) is ∙ sym (element_lists_are (s ∷ []))

  -- what learning them makes and costs is what asking does
  pub works_asked : (old same new : Entries) (before now : ℕ) → same ≡ old → Works (map element_list elements) same new before now → Works (type_lists s) old new before now
  works_asked old same new before now e w = subst (λ (es : Entries). Works (type_lists s) es new before now) e (subst (λ ls. Works ls same new before now) these w)

  pub made_asked : (old same new : Entries) → same ≡ old → HasMade (map element_list elements) same new → HasMade (type_lists s) old new
  made_asked old same new e made = subst (λ (es : Entries). HasMade (type_lists s) es new) e (subst (λ ls. HasMade ls same new) these made)

  pub type_cost_is : learning_cost elements ≡ type_cost s
  unfolding type_cost
  type_cost_is = sym (learning_cost_is elements) ∙ ap (sum_by sum) these

pub cost_asked : (s : Specifier) (old new : Entries) (before now : ℕ) → IsClosed (lists old) → Works (type_lists s) old new before now → now ≤ before + type_cost s
unfolding type_cost
cost_asked s old new before now closed w = steps-within_cost (type_lists s) old before now closed w.steps

-- where nothing was made
pub paid_none : (old same new : Entries) (before now : ℕ) → same ≡ old → new ≡ same → now ≡ before → IsPaid old new before now
paid_none old same new before now d e f = IsPaid-same old new before now (e ∙ d) f

-- what is said of an answer within the budget
pub right_asked : (structures : Structures) (o : LispObject) (s : Specifier) (budget : ℕ) (answer : Belonging) → type_cost s ≤ budget → IsRightAsked structures o s answer → IsRightMembership structures o s budget answer
right_asked structures o s budget belongs.TooLarge within h = absurd h
right_asked structures o s budget belongs.Inside within h = (within, h)
right_asked structures o s budget belongs.Outside within h = (within, h)
right_asked structures o s budget belongs.Depends within h = (within, h.0, h.1)

pub done_asked : (structures : Structures) (o : LispObject) (s : Specifier) (ls : List (List Specifier)) (old new : Entries) (before now : ℕ) (answer : Belonging) → IsRightAsked structures o s answer → HasMade ls old new
    → HasAsked ls old new before now answer
done_asked structures o s ls old new before now belongs.TooLarge right made = absurd right
done_asked structures o s ls old new before now belongs.Inside right made = made
done_asked structures o s ls old new before now belongs.Outside right made = made
done_asked structures o s ls old new before now belongs.Depends right made = made

-- the answer speaks of the type by its number in a store
pub asked_at : (same structures : Structures) (o : LispObject) (t s : Specifier) (answer : Belonging) → same ≡ structures → t ≡ s → IsRightAsked same o t answer → IsRightAsked structures o s answer
asked_at same structures o t s answer e f h =
    subst (λ (x : Specifier). IsRightAsked structures o x answer) f (subst (λ (ss : Structures). IsRightAsked ss o t answer) e h)
