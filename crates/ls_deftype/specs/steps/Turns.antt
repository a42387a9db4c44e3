-- One turn of a copy.
use Rattle.std.specs.Prelude.{ℕ, ◌≡◌, ◌+◌, ◌*◌, ◌<◌, List, Result, Ok, Err}
use Rattle.ls_reader.specs.declared.datum.Datum.{Datum}
use Rattle.ls_reader.specs.Sizes.{size_all}
use Rattle.ls_deftype.specs.declared.room.Stop.{Stop}
use Rattle.ls_deftype.specs.declared.begun.Begun.{Begun}
use Rattle.ls_deftype.specs.declared.copying.Turn.{Turn}
use Rattle.ls_deftype.specs.declared.copying.Turn.TheVariants as turn
use Rattle.ls_deftype.specs.steps.Begun.{left, ended, plugged, left_in, work}
use Rattle.ls_deftype.specs.steps.Room.{Fails}

-- how many data are left to copy
abbrev pub all_left : List Begun → Begun → ℕ
all_left bs b = left_in bs + size_all (left b)

-- The datum is being copied, with less work left, and what was copied was taken from the room. `todo` data were to be
-- copied before, within `count` constructs.
pub record GoesOn (target : Datum) (todo count before : ℕ) (new : List Begun) (after : ℕ) (next : Begun) : Type 0 where
  pub same : plugged new (ended next) ≡ target
  pub room : after + todo ≡ before + all_left new next
  pub less : work new next < 2 * todo + count

-- what a turn gave
abbrev pub Turned : Datum → ℕ → ℕ → ℕ → List Begun → ℕ → Result Turn Stop → Type 0
Turned target todo count before new after (Ok (turn.On next)) = GoesOn target todo count before new after next
Turned target todo count before new after (Ok (turn.Ended d)) = (d ≡ target) × (after + todo ≡ before)
Turned target todo count before new after (Err e) = Fails todo before e
