-- The right answer to a query (SUBTYPEP), and what the cost of a decision is answered.
use Rattle.std.specs.Prelude.{ℕ, ◌≡◌, ◌<◌, ◌≤◌, Option, Some, None}
use Rattle.ls_object.specs.Universe.{LispObject, Structures, IsPlain}
use Rattle.ls_object.specs.Meaning.{lisp_object}
use Rattle.ls_object.specs.declared.table.Code.{Code}
use Rattle.ls_spec.specs.Specifier.{Specifier}
use Rattle.ls_spec.specs.Membership.{Belongs, UpgradesTo}
use Rattle.ls_spec.specs.Approximation.{low, high}
use Rattle.ls_spec.specs.Inclusion.{IsIncluded, IsWitness, IsUnsureWitness}
use Rattle.ls_lists.specs.Costs.{pair_cost, type_cost, upgrade_cost}
use Rattle.ls_decide.specs.declared.answer.Answer.{Answer}
use Rattle.ls_decide.specs.declared.answer.Answer.TheVariants.{Yes, No, Unsure, TooLarge}
use Rattle.ls_decide.specs.declared.answer.Belongs.{Belongs as Belonging}
use Rattle.ls_decide.specs.declared.answer.Belongs.TheVariants as belongs

-- TooLarge exactly where the cost of the pair is more than the budget. Else Yes exactly where the first type is
-- included in the second, No with a witness exactly where there is one, and otherwise Unsure: no two of these hold of
-- one pair.
abbrev pub IsRight : Structures → Specifier → Specifier → ℕ → Answer → Type 0
IsRight structures a b budget TooLarge = budget < pair_cost a b
IsRight structures a b budget Yes = (pair_cost a b ≤ budget) × IsIncluded structures a b
IsRight structures a b budget (No o) = (pair_cost a b ≤ budget) × IsWitness structures a b (lisp_object o)
IsRight structures a b budget (Unsure o) = (pair_cost a b ≤ budget) × IsUnsureWitness structures a b (lisp_object o)

-- the witness, where there is one, is plain
abbrev pub IsPlainAnswer : Answer → Type 0
IsPlainAnswer Yes = Unit {0}
IsPlainAnswer TooLarge = Unit {0}
IsPlainAnswer (No o) = IsPlain (lisp_object o)
IsPlainAnswer (Unsure o) = IsPlain (lisp_object o)

-- the upgraded code of an element type, or None exactly where the cost of finding it is more than the budget
abbrev pub IsUpgraded : Structures → Specifier → ℕ → Option Code → Type 0
IsUpgraded structures e budget None = budget < upgrade_cost e
IsUpgraded structures e budget (Some code) = (upgrade_cost e ≤ budget) × UpgradesTo structures e code.index

-- the number is the cost, or there is none, exactly where the cost is more than the budget
abbrev pub TellsCost : ℕ → ℕ → Option ℕ → Type 0
TellsCost budget cost None = budget < cost
TellsCost budget cost (Some n) = (n ≡ cost) × (cost ≤ budget)

-- The right answer on an object and a type (TYPEP). TooLarge exactly where the cost of the type is more than the budget.
-- Else Inside where the object is in the lower approximation of the type, so that it belongs whatever the predicates
-- mean, Outside where it is not in the upper one, so that it does not belong whatever they mean, and otherwise Depends.
abbrev pub IsRightMembership : Structures → LispObject → Specifier → ℕ → Belonging → Type 0
IsRightMembership structures o s budget belongs.TooLarge = budget < type_cost s
IsRightMembership structures o s budget belongs.Inside = (type_cost s ≤ budget) × Belongs structures (low s) o
IsRightMembership structures o s budget belongs.Outside = (type_cost s ≤ budget) × (Belongs structures (high s) o → ⊥)
IsRightMembership structures o s budget belongs.Depends =
    (type_cost s ≤ budget) × (Belongs structures (low s) o → ⊥) × Belongs structures (high s) o
