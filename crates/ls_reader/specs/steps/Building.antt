-- How the reader goes on from one token to the next, with the constructs begun and not ended, the innermost first.
-- Nothing of this needs to be believed: it is what the code does, and the grammar of Forms.antt is proved of it.
use Rattle.std.specs.Prelude.{◌≡◌, Bool, true, false, nat_lt, if◌then◌else◌, List, [], ◌∷◌, ◌++◌, length, Result, Ok, Err, Option, Some, None}
use Rattle.ls_reader.specs.declared.place.Place.{Place}
use Rattle.ls_reader.specs.declared.datum.Datum.{Datum}
use Rattle.ls_reader.specs.declared.fault.FaultKind.{FaultKind}
use Rattle.ls_reader.specs.declared.fault.FaultKind.TheVariants.{BadToken, StrayClose, BadDot, TooDeep}
use Rattle.ls_reader.specs.declared.fault.Failure.{Failure}
use Rattle.ls_reader.specs.declared.fault.Failure.TheVariants as failure
use Rattle.ls_reader.specs.declared.token.Token.{Token}
use Rattle.ls_reader.specs.declared.token.Token.TheVariants as token
use Rattle.ls_reader.specs.declared.frame.Frame.{Frame}
use Rattle.ls_reader.specs.declared.frame.Frame.TheVariants as frame
use Rattle.ls_reader.specs.declared.builder.Builder.{Builder}
use Rattle.ls_reader.specs.Data as made
use Rattle.ls_reader.specs.Features.{holds, is_kept}

-- a fault and its place
abbrev pub PlacedFault : Type 0
PlacedFault = FaultKind × Place

-- The expression of a feature is whole.
abbrev pub choose : Place → Bool → Option Bool → List Frame → List Datum → Result Builder PlacedFault
choose from plus None w done = Err (BadToken, from)
choose from plus (Some b) w done = Ok (record { frames = frame.Chosen from (is_kept plus (Some b)) ∷ w; done = done })

-- A datum is whole: it goes into the construct around it, and may end that. A second one behind a dot is a fault.
abbrev pub put : Datum → List Frame → List Datum → Result Builder PlacedFault
put d [] done = Ok (record { frames = []; done = done ++ d ∷ [] })
put d (frame.List kind from items ∷ w) done =
    Ok (record { frames = frame.List kind from (items ++ d ∷ []) ∷ w; done = done })
put d (frame.Dot from items ∷ w) done = Ok (record { frames = frame.Tail from items d ∷ w; done = done })
put d (frame.Tail from items last ∷ w) done = Err (BadDot, made.start_of d)
put d (frame.Mark kind from ∷ w) done = put (made.mark_on kind from d) w done
put d (frame.Feature from plus ∷ w) done = choose from plus (holds d) w done
put d (frame.Chosen from true ∷ w) done = put d w done
put d (frame.Chosen from false ∷ w) done = Ok (record { frames = w; done = done })

-- whether a datum may begin: not as a second one behind a dot
abbrev pub admits : List Frame → Bool
admits [] = true
admits (frame.List kind from items ∷ w) = true
admits (frame.Dot from items ∷ w) = true
admits (frame.Tail from items last ∷ w) = false
admits (frame.Mark kind from ∷ w) = true
admits (frame.Feature from plus ∷ w) = true
admits (frame.Chosen from kept ∷ w) = if kept then admits w else true

-- A construct begins, unless it would be 257 deep.
abbrev pub begin : Place → Frame → Builder → Result Builder PlacedFault
begin from f s =
    if nat_lt (length s.frames) 256 then Ok (record { frames = f ∷ s.frames; done = s.done }) else Err (TooDeep, from)

-- A construct that is a datum begins.
abbrev pub begin_datum : Place → Frame → Builder → Result Builder PlacedFault
begin_datum from f s = if admits s.frames then begin from f s else Err (BadDot, from)

-- A closing bracket ends the innermost construct, which must be a list or a vector (2.4.2).
abbrev pub close : Place → Place → List Frame → List Datum → Result Builder PlacedFault
close at to [] done = Err (StrayClose, at)
close at to (frame.List kind from items ∷ w) done = put (made.list kind from to items) w done
close at to (frame.Dot from items ∷ w) done = Err (BadDot, at)
close at to (frame.Tail from items last ∷ w) done = put (made.dotted_list from to items last) w done
close at to (frame.Mark kind from ∷ w) done = Err (StrayClose, at)
close at to (frame.Feature from plus ∷ w) done = Err (StrayClose, at)
close at to (frame.Chosen from kept ∷ w) done = Err (StrayClose, at)

-- A dot stands in the innermost construct, which must be a list with data in it.
abbrev pub dot : Place → List Frame → List Datum → Result Builder PlacedFault
dot at [] done = Err (BadDot, at)
dot at (frame.List kind from items ∷ w) done =
    if made.takes_dot kind items
    then Ok (record { frames = frame.Dot from items ∷ w; done = done }) else Err (BadDot, at)
dot at (frame.Dot from items ∷ w) done = Err (BadDot, at)
dot at (frame.Tail from items last ∷ w) done = Err (BadDot, at)
dot at (frame.Mark kind from ∷ w) done = Err (BadDot, at)
dot at (frame.Feature from plus ∷ w) done = Err (BadDot, at)
dot at (frame.Chosen from kept ∷ w) done = Err (BadDot, at)

-- a token from one place to another
abbrev pub step : Place → Place → Token → Builder → Result Builder PlacedFault
step from to token.Gap s = Ok s
step from to (token.Open kind) s = begin_datum from (frame.List kind from []) s
step from to token.Close s = close from to s.frames s.done
step from to token.Dot s = dot from s.frames s.done
step from to (token.Mark kind) s = begin_datum from (frame.Mark kind from) s
step from to (token.Feature plus) s = begin from (frame.Feature from plus) s
step from to (token.Atom form) s = put (made.datum from to.byte form) s.frames s.done
step from to (token.Bad kind) s = Err (kind, from)

-- before the first token
abbrev pub nothing : Builder
nothing = record { frames = []; done = [] }

-- an error is that of the step, or memory ran out
abbrev pub FailsWith : {Y : Type 0} → Failure → Result Y PlacedFault → Type 0
FailsWith failure.Memory stepped = Unit {0}
FailsWith (failure.Fault kind at) stepped = stepped ≡ Err (kind, at)

-- What a method of a builder answered, and left, is what a step gives, unless memory ran out.
abbrev pub Steps : {U : Type 0} → Result U Failure → Builder → Result Builder PlacedFault → Type 0
Steps (Ok u) new stepped = stepped ≡ Ok new
Steps (Err e) new stepped = FailsWith e stepped

-- the data, where nothing is begun; else where the innermost construct begins
abbrev pub finish_with : List Frame → List Datum → Result (List Datum) Place
finish_with [] done = Ok done
finish_with (frame.List kind from items ∷ w) done = Err from
finish_with (frame.Dot from items ∷ w) done = Err from
finish_with (frame.Tail from items last ∷ w) done = Err from
finish_with (frame.Mark kind from ∷ w) done = Err from
finish_with (frame.Feature from plus ∷ w) done = Err from
finish_with (frame.Chosen from kept ∷ w) done = Err from

-- the same of a builder
abbrev pub finish : Builder → Result (List Datum) Place
finish b = finish_with b.frames b.done
