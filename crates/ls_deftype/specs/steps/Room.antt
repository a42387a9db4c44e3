-- What a call that takes room answered, and what it left.
use Rattle.std.specs.Prelude.{ℕ, ◌≡◌, ◌+◌, ◌<◌, Result, Ok, Err}
use Rattle.ls_deftype.specs.declared.room.Stop.{Stop}
use Rattle.ls_deftype.specs.declared.room.Stop.TheVariants as stop

-- what is wanted is larger than the room, or memory ran out
abbrev pub Fails : ℕ → ℕ → Stop → Type 0
Fails size before stop.Memory = Unit {0}
Fails size before stop.TooMany = before < size

-- an answer as wanted, whose size was taken from the room, or a failure
abbrev pub Takes : {X : Type 0} → (X → Type 0) → ℕ → ℕ → ℕ → Result X Stop → Type 0
Takes P size before after (Ok x) = P x × (after + size ≡ before)
Takes P size before after (Err e) = Fails size before e
