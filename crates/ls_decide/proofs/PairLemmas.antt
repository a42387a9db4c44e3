-- What holds of the list of a pair of types holds of both, and the other way round.
use Rattle.std.proofs.Common.{◌≡◌, ℕ, suc, ◌<◌, ◌≤◌, refl, ap, sym, subst, ◌∙◌, Bool, true, false, Option, List, [], ◌∷◌, ◌++◌, length, if◌then◌else◌, arith, All}
use Rattle.std.specs.List.{AllByRecursion, Contains, list_any}
use Rattle.std.proofs.lemmas.List.Elements.{All-from_recursion}
use Rattle.ls_object.specs.Universe.{Structures}
use Rattle.ls_object.specs.Inclusion.{IsInclusionOrder}
use Rattle.ls_object.specs.declared.object.Object.{Object}
use Rattle.ls_spec.specs.Specifier.{Specifier}
use Rattle.ls_spec.specs.Meaning.{specifiers_of}
use Rattle.ls_spec.specs.Atoms.{leaves, leaves_of_all, atoms_of}
use Rattle.ls_spec.specs.Distinct.{same, distinct}
use Rattle.ls_spec.specs.Truth.{Learnt, IsLearnt}
use Rattle.ls_spec.proofs.AlikeLemmas.{AllByRecursion-front, AllByRecursion-back}
use Rattle.ls_spec.proofs.DistinctLemmas.{all_from_distinct, all_of_distinct}
use Rattle.ls_spec.proofs.ListLemmas.{AllByRecursion-weaker}
use Rattle.ls_lists.specs.Costs.{pair_cost}
use Rattle.ls_intern.specs.Places.{specifiers_at}
use Rattle.ls_cells.specs.declared.cells.Cells.{Cells}
use Rattle.ls_cells.specs.Cells.{AreRowsOf}
use Rattle.ls_cells.specs.Kept.{AreCellsOf}
use Rattle.ls_cells.specs.Codes.{Codes, AreUpgraded, HasCodes}
use Rattle.ls_cells.proofs.DescentLemmas.{codes_atoms, learnt_by, codes_are_all}
use Rattle.ls_decide.specs.declared.answer.Answer.{Answer}
use Rattle.ls_decide.specs.declared.answer.Answer.TheVariants.{Yes, No, Unsure, TooLarge}
use Rattle.ls_decide.specs.Answers.{IsRight}
use Rattle.ls_decide.specs.Sessions.{pair_list}
use Rattle.ls_decide.specs.steps.Comparing.{IsOver, IsFound, IsRightWithin}

there : {X : Type 0} (x y : X) (xs : List X) → Contains xs x → Contains (y ∷ xs) x
there x y xs c = (suc c.0, omega (arith, c.1), c.2)

-- each of a list is in it
pub each_itself : (xs : List Specifier) → AllByRecursion (Contains xs) xs
each_itself [] = tt
each_itself (x ∷ xs) = ((0, omega arith, refl), AllByRecursion-weaker (Contains xs) (Contains (x ∷ xs)) (λ y c. there y x xs c) xs (each_itself xs))

-- each leaf of a list is one of its atoms
leaves_among : (list : List Specifier) → AllByRecursion (Contains (atoms_of list)) (leaves_of_all (specifiers_of list))
leaves_among list = all_from_distinct (Contains (atoms_of list)) (leaves_of_all (specifiers_of list)) (each_itself (atoms_of list))

by_specifier : (P : Specifier → Type 0) (list : List Specifier) → AllByRecursion P (leaves_of_all (specifiers_of list)) → AllByRecursion (λ s. AllByRecursion P (leaves s)) list
by_specifier P [] h = tt
by_specifier P (s ∷ list) h = (
  AllByRecursion-front P (leaves s) (leaves_of_all (specifiers_of list)) h,
  by_specifier P list (AllByRecursion-back P (leaves s) (leaves_of_all (specifiers_of list)) h),
)

-- each specifier of a list is made of the atoms of its distinct ones
pub over_all : (xs atoms : List Specifier) → atoms ≡ atoms_of (distinct xs) → AllByRecursion (IsOver atoms) xs
over_all xs atoms e =
    subst (λ (l : List Specifier). AllByRecursion (IsOver l) xs) (sym e)
    (all_from_distinct (IsOver (atoms_of (distinct xs))) xs (by_specifier (Contains (atoms_of (distinct xs))) (distinct xs) (leaves_among (distinct xs))))

-- what the codes of a store tell of a specifier
pub is_learnt : (structures : Structures) (codes : Codes) (s : Specifier) → AreUpgraded structures codes → IsInclusionOrder structures → HasCodes codes s
    → IsLearnt structures (learnt_by structures codes) s
is_learnt structures codes s upgraded order coded =
    codes_are_all structures codes (s ∷ []) upgraded order (All-from_recursion (HasCodes codes) (s ∷ []) (coded, tt)) 0 s (omega arith)

-- and of the rows that are kept for a list
pub rows_learnt : (structures : Structures) (codes : Codes) (known list : List Specifier) → AreUpgraded structures codes → IsInclusionOrder structures → All (HasCodes codes) list
    → (cells : Cells) → AreCellsOf structures known list cells → AreRowsOf structures (learnt_by structures codes) (specifiers_at known cells.atoms) cells.rows
rows_learnt structures codes known list upgraded order coded cells are =
    subst (λ ls. AreRowsOf structures (learnt_by structures codes) ls cells.rows) (sym are.atoms_are)
    (are.right.are (learnt_by structures codes) (codes_are_all structures codes (atoms_of list) upgraded order (codes_atoms codes list coded)))

pair_by : (a b : Specifier) (x : Bool) → [] ≡ (if x then a ∷ [] else (a ∷ []) ++ b ∷ []) → ⊥
pair_by a b true e = cc
pair_by a b false e = cc

module _ (known : List Specifier) (ids : List ℕ) (a b : Specifier) (pair : specifiers_at known ids ≡ pair_list a b) where
  -- what holds of both holds of each of the list
  pub pair_all : (P : Specifier → Type 0) → P a → P b → All P (specifiers_at known ids)
  pair_all P p q = subst (All P) (sym pair) (All-from_recursion P (pair_list a b) (all_of_distinct P (a ∷ b ∷ []) (p, (q, tt))))

  -- the list has a specifier
  pub pair_some : 0 < length ids
  pair_some = some ids pair
    where
      some : (is : List ℕ) → specifiers_at known is ≡ pair_list a b → 0 < length is
      some [] e = absurd (pair_by a b (list_any (same b) (a ∷ [])) e)
      some (i ∷ is) e = omega arith

  -- both are made of atoms of the list
  pub pair_over : (atoms : List Specifier) → atoms ≡ atoms_of (specifiers_at known ids) → IsOver atoms a × IsOver atoms b
  pair_over atoms e =
      let both = over_all (a ∷ b ∷ []) atoms (e ∙ ap atoms_of pair) in
      (both.0, both.1.0)

  -- what is found where all is learnt is found
  pub pair_found : (structures : Structures) (codes : Codes) → AreUpgraded structures codes → IsInclusionOrder structures → HasCodes codes a → HasCodes codes b
      → (cells : Cells) → AreCellsOf structures known (specifiers_at known ids) cells → (found : Option Object)
      → ((s : Structures) (learnt : Learnt) → IsLearnt s learnt a → IsLearnt s learnt b → AreRowsOf s learnt (specifiers_at known cells.atoms) cells.rows → IsFound s a b found)
      → IsFound structures a b found
  pair_found structures codes upgraded order a_coded b_coded cells are found h =
      h structures (learnt_by structures codes) (is_learnt structures codes a upgraded order a_coded) (is_learnt structures codes b upgraded order b_coded)
      (rows_learnt structures codes known (specifiers_at known ids) upgraded order (pair_all (HasCodes codes) a_coded b_coded) cells are)

-- where the cost is within the budget, what is right without one is right
pub IsRight-within : (structures : Structures) (a b : Specifier) (budget : ℕ) (answer : Answer) → pair_cost a b ≤ budget
    → IsRightWithin structures a b answer → IsRight structures a b budget answer
IsRight-within structures a b budget TooLarge within right = absurd right
IsRight-within structures a b budget Yes within right = (within, right)
IsRight-within structures a b budget (No o) within right = (within, right)
IsRight-within structures a b budget (Unsure o) within right = (within, right)
