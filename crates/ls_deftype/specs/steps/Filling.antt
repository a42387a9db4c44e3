-- What is put behind other data, and what a parameter's value is in the code.
use Rattle.std.specs.Prelude.{ℕ, ◌≡◌, ◌+◌, List, ◌++◌, map, Option, Some, None, Result, Ok, Err}
use Rattle.std.specs.List.{flat_map}
use Rattle.ls_reader.specs.declared.datum.Datum.{Datum}
use Rattle.ls_reader.specs.Sizes.{size, size_all}
use Rattle.ls_deftype.specs.declared.room.Stop.{Stop}
use Rattle.ls_deftype.specs.declared.arguments.Use as lent
use Rattle.ls_deftype.specs.declared.arguments.Value.{Value}
use Rattle.ls_deftype.specs.declared.arguments.Value.TheVariants as value
use Rattle.ls_deftype.specs.Templates.{definition_of}
use Rattle.ls_deftype.specs.Arguments.{Use, listed, rest_args}
use Rattle.ls_deftype.specs.Substitution.{Filled, filled}
use Rattle.ls_deftype.specs.steps.Room.{Fails}

-- the data were put behind others, and their size was taken from the room
abbrev pub Puts : {X : Type 0} → List Datum → List Datum → List Datum → ℕ → ℕ → Result X Stop → Type 0
Puts wanted old new before after (Ok x) = (new ≡ old ++ wanted) × (after + size_all wanted ≡ before)
Puts wanted old new before after (Err e) = Fails (size_all wanted) before e

-- the use that the code is at
abbrev pub use_of : lent.Use → Use
use_of u = record { template = definition_of u.template.now; place = u.place; args = u.args.now }

-- what a parameter stands for
abbrev pub shown : Use → Value → Option Datum
shown u value.None = None
shown u (value.Datum d) = Some d.now
shown u value.Rest = Some (listed u.place (rest_args u))

-- what stands in the places of data before a dot or in a vector, one datum for each
abbrev pub each : Use → List Datum → List Datum
each u ds = map (λ (p : Filled). p.one) (map (filled u) ds)

-- what stands in the places of the elements of a list
abbrev pub elements : Use → List Datum → List Datum
elements u ds = flat_map (λ (p : Filled). p.all) (map (filled u) ds)

-- how many data stand in the place of a datum behind a dot
abbrev pub behind_dot : Filled → Option (List Datum) → ℕ
behind_dot last (Some more) = size_all more
behind_dot last None = size last.one
