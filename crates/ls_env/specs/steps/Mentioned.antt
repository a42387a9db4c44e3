-- What data mention, as the code gathers it.
use Rattle.std.specs.Prelude.{ℕ, List, Bool, option_to_list}
use Rattle.std.specs.List.{flat_map}
use Rattle.ls_object.specs.declared.symbol.Symbol.{Symbol}
use Rattle.ls_reader.specs.declared.datum.Datum.{Datum}
use Rattle.ls_env.specs.declared.status.NameStatus.{NameStatus}
use Rattle.ls_env.specs.Definitions.{first_symbol}
use Rattle.ls_env.specs.Mentions.{of_objects}
use Rattle.ls_env.specs.Statuses.{number_in, looked_up, mentioned}

-- whether a list has MEMBER, EQL or SATISFIES in front
abbrev pub is_of_objects : List Datum → Bool
is_of_objects ds = of_objects (first_symbol ds)

-- the number of the template of that name, if there is one
abbrev pub mentioned_by : List Symbol → List NameStatus → Symbol → List ℕ
mentioned_by names statuses s = option_to_list (number_in (looked_up names statuses s))

abbrev pub mentioned_by_all : List Symbol → List NameStatus → List Datum → List ℕ
mentioned_by_all names statuses ds = flat_map (mentioned names statuses) ds
