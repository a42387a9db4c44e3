-- What a call of a session makes and keeps, list by list.
use Rattle.std.specs.Prelude.{ℕ, ◌≡◌, ◌≤◌, ◌+◌, List, [], ◌∷◌, ◌++◌, Option, None, Some, IsTrue}
use Rattle.std.specs.List.{AllByRecursion}
use Rattle.ls_object.specs.declared.table.Code.{Code}
use Rattle.ls_spec.specs.Specifier.{Specifier}
use Rattle.ls_spec.specs.Distinct.{distinct}
use Rattle.ls_lists.specs.Costs.{table_specifiers, element_lists, pair_lists}
use Rattle.ls_lists.specs.Walks.{among, is_done, walk_all, reached, total}
use Rattle.ls_cells.specs.Kept.{Entries, lists, count_rows, Grows}
use Rattle.ls_decide.specs.declared.answer.Answer.{Answer}
use Rattle.ls_decide.specs.declared.answer.Answer.TheVariants.{Yes, No, Unsure, TooLarge}
use Rattle.ls_decide.specs.declared.answer.Belongs.{Belongs}
use Rattle.ls_decide.specs.declared.answer.Belongs.TheVariants as belongs

-- the list that a pair of types is decided by
abbrev pub pair_list : Specifier → Specifier → List Specifier
pair_list a b = distinct (a ∷ b ∷ [])

-- the list by which the upgraded code of an element type is found
unfoldable pub element_list : Specifier → List Specifier
element_list e = distinct (e ∷ table_specifiers)

-- the lists by which a type is found to be included in another, in order: those of the element types, and that of the
-- pair
abbrev pub decided_lists : Specifier → Specifier → List (List Specifier)
decided_lists a b = element_lists (a ∷ b ∷ []) ++ pair_list a b ∷ []

-- rows are kept for each list that these reach
abbrev pub AreAllKept : List (List Specifier) → Entries → Type 0
AreAllKept ls entries = AllByRecursion (λ list. AllByRecursion (λ l. IsTrue (among l (lists entries))) (reached list)) ls

-- What any call that makes rows for lists, one after another, does, also one that wants memory: what was kept, with how
-- many steps, before and after it.
pub record Works (ls : List (List Specifier)) (old new : Entries) (before now : ℕ) : Type 0 where
  -- what was kept stays
  pub grows : Grows old new
  -- no more rows come than steps are made
  pub rows : count_rows new + before ≤ count_rows old + now
  pub rises : before ≤ now
  -- there are no more steps than the lists add that are reached and for which no rows were kept
  pub steps : now + total (lists old) ≤ before + total (walk_all ls (lists old))
  -- so there is none where rows were kept for each list
  pub again : AllByRecursion (λ list. IsTrue (is_done list (lists old))) ls → now ≡ before

-- what is kept behind what was kept are the lists that these reach, in the order of their walk
pub record HasMade (ls : List (List Specifier)) (old new : Entries) : Type 0 where
  pub walked : lists new ≡ walk_all ls (lists old)
  pub kept : AreAllKept ls new

-- no more steps were made than the lists add that are kept anew
abbrev pub IsPaid : Entries → Entries → ℕ → ℕ → Type 0
IsPaid old new before now = now + total (lists old) ≤ before + total (lists new)

-- What an answered call has done: rows are kept for each list that its answer rests on. One that is answered TooLarge
-- has made no step and keeps what was kept.
abbrev pub HasDone : Specifier → Specifier → Entries → Entries → ℕ → ℕ → Answer → Type 0
HasDone a b old new before now TooLarge = (new ≡ old) × (now ≡ before)
HasDone a b old new before now Yes = HasMade (decided_lists a b) old new
HasDone a b old new before now (No o) = HasMade (pair_lists a b) old new
HasDone a b old new before now (Unsure o) = HasMade (pair_lists a b) old new

-- the same of a call that asks for an upgraded code
abbrev pub HasUpgraded : List (List Specifier) → Entries → Entries → ℕ → ℕ → Option Code → Type 0
HasUpgraded ls old new before now None = (new ≡ old) × (now ≡ before)
HasUpgraded ls old new before now (Some code) = HasMade ls old new

-- the same of a call that asks whether an object belongs
abbrev pub HasAsked : List (List Specifier) → Entries → Entries → ℕ → ℕ → Belongs → Type 0
HasAsked ls old new before now belongs.TooLarge = (new ≡ old) × (now ≡ before)
HasAsked ls old new before now _ = HasMade ls old new
