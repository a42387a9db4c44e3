-- A reader's turn: it takes the lexeme at the front.
use Rattle.std.specs.Prelude.{ℕ, ◌+◌, ◌-◌, ◌*◌, ◌^◌, ◌≤◌, ◌≡◌, List, length, take, Result, Ok, Err, Option, Some, None}
use Rattle.ls_reader.specs.declared.place.Place.{Place}
use Rattle.ls_reader.specs.declared.builder.Builder.{Builder}
use Rattle.ls_reader.specs.declared.datum.Span.{Span}
use Rattle.ls_reader.specs.declared.fault.FaultKind.{FaultKind}
use Rattle.ls_reader.specs.declared.fault.Failure.{Failure}
use Rattle.ls_reader.specs.declared.fault.Failure.TheVariants as failure
use Rattle.ls_reader.specs.declared.fault.Stop.{Stop}
use Rattle.ls_reader.specs.declared.fault.Stop.TheVariants as stop
use Rattle.ls_reader.specs.declared.reader.Reader.{Reader}
use Rattle.ls_reader.specs.declared.token.Token.{Token}
use Rattle.ls_reader.specs.Places.{after_all, span_at}
use Rattle.ls_reader.specs.Faults.{Fault, FaultIn}
use Rattle.ls_reader.specs.steps.Lexing.{LocalFault, lexeme}
use Rattle.ls_reader.specs.steps.Building.{step, PlacedFault, FailsWith}

-- what is left, from where on, and what was read
pub record Reading : Type 0 where
  pub at : Place
  pub rest : List ℕ
  pub builder : Builder

-- what a reader holds
abbrev pub reading : Reader → Reading
reading r = record { at = r.place; rest = r.rest.now; builder = r.builder }

-- the text before what is left
abbrev pub used : List ℕ → List ℕ → List ℕ
used cs more = take (length cs - length more) cs

-- what is read with a builder as a step leaves it
abbrev pub stepped : Place → List ℕ → Result Builder PlacedFault → Result Reading PlacedFault
stepped at rest (Ok b) = Ok (record { at = at; rest = rest; builder = b })
stepped at rest (Err x) = Err x

-- what is read once a lexeme is found, or the fault is at its place
abbrev pub taken : Reading → Result (Token × List ℕ) LocalFault → Result Reading PlacedFault
taken r (Ok x) = let to = after_all r.at (used r.rest x.1) in stepped to x.1 (step r.at to x.0 r.builder)
taken r (Err x) = Err (x.0, after_all r.at (take x.1 r.rest))

-- what is read with one lexeme more
abbrev pub advance : Reading → Result Reading PlacedFault
advance r = taken r (lexeme r.rest)

-- What a method of a reader answered, and left, is what the turn gives, unless memory ran out.
abbrev pub Turns : {U : Type 0} → Result U Failure → Reader → Result Reading PlacedFault → Type 0
Turns (Ok u) new turn = turn ≡ Ok (reading new)
Turns (Err e) new turn = FailsWith e turn

-- the numbers of each place in what is left are below 2 ^ 28
pub record IsSmall (at : Place) (rest : List ℕ) : Type 0 where
  pub byte : at.byte + 4 * length rest ≤ 2 ^ 27
  pub line : at.line + length rest ≤ 2 ^ 27
  pub column : at.column + length rest ≤ 2 ^ 27

-- the place of a fault is within the text
abbrev pub IsWithin : Stop → List ℕ → Type 0
IsWithin stop.Memory text = Unit {0}
IsWithin (stop.Fault k n) text = n ≤ length text

-- the failure from what stopped the lexer at the front of a text
abbrev pub failure_at : Stop → Place → List ℕ → Failure
failure_at stop.Memory at text = failure.Memory
failure_at (stop.Fault k n) at text = failure.Fault k (after_all at (take n text))

-- the failure is the fault of the characters, unless memory ran out
abbrev pub FailsIn : List ℕ → Failure → Type 0
FailsIn cs failure.Memory = Unit {0}
FailsIn cs (failure.Fault k place) = FaultIn cs k place

-- the failure is the fault of the bytes, unless memory ran out
abbrev pub FailsAt : List ℕ → Failure → Type 0
FailsAt bytes failure.Memory = Unit {0}
FailsAt bytes (failure.Fault k place) = Fault bytes k place

-- the fault of a failure, with its empty span
abbrev pub fault_of_failure : Failure → Option (FaultKind × Span)
fault_of_failure failure.Memory = None
fault_of_failure (failure.Fault kind at) = Some (kind, span_at at)
