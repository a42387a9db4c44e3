-- How one object is tested.
use Rattle.std.specs.Prelude.{Bool}
use Rattle.std.specs.Bool.{Decides}
use Rattle.ls_object.specs.Universe.{LispObject, Structures}
use Rattle.ls_spec.specs.Specifier.{Specifier}
use Rattle.ls_spec.specs.Membership.{Belongs}
use Rattle.ls_spec.specs.Approximation.{bounded, low, high}
use Rattle.ls_decide.specs.declared.answer.Belongs.{Belongs as Belonging}
use Rattle.ls_decide.specs.declared.answer.Belongs.TheVariants as belongs

-- the truth value tells whether the object belongs to an approximation of the specifier: the upper one where `upper` is
-- true, and the lower one where it is false
abbrev pub Tells : Structures → Bool → Specifier → LispObject → Bool → Type 0
Tells structures upper s o told = Decides told (Belongs structures (bounded upper s) o)

-- the answer is right where the cost is within the budget
abbrev pub IsRightAsked : Structures → LispObject → Specifier → Belonging → Type 0
IsRightAsked structures o s belongs.TooLarge = ⊥
IsRightAsked structures o s belongs.Inside = Belongs structures (low s) o
IsRightAsked structures o s belongs.Outside = Belongs structures (high s) o → ⊥
IsRightAsked structures o s belongs.Depends = (Belongs structures (low s) o → ⊥) × Belongs structures (high s) o
