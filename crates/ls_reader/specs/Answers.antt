-- What the reader answers.
use Rattle.std.specs.Prelude.{ℕ, ◌≡◌, List, Result, Ok, Err, Option, Some, None, IfSome}
use Rattle.ls_reader.specs.declared.place.Place.{Place}
use Rattle.ls_reader.specs.declared.datum.Datum.{Datum}
use Rattle.ls_reader.specs.declared.datum.Span.{Span}
use Rattle.ls_reader.specs.declared.fault.FaultKind.{FaultKind}
use Rattle.ls_reader.specs.declared.fault.FaultKind.TheVariants as fault_kind
use Rattle.ls_reader.specs.declared.fault.ReadError.{ReadError}
use Rattle.ls_reader.specs.declared.fault.ReadError.TheVariants as errors
use Rattle.ls_reader.specs.Places.{span_at}
use Rattle.ls_reader.specs.Forms.{Forms}
use Rattle.ls_reader.specs.Faults.{Fault}

-- the fault that an error tells, with its span; want of memory is none
abbrev pub fault_of : ReadError → Option (FaultKind × Span)
fault_of (errors.NotUtf8 span) = Some (fault_kind.NotUtf8, span)
fault_of (errors.BadToken span) = Some (fault_kind.BadToken, span)
fault_of (errors.StrayClose span) = Some (fault_kind.StrayClose, span)
fault_of (errors.Unclosed span) = Some (fault_kind.Unclosed, span)
fault_of (errors.BadDot span) = Some (fault_kind.BadDot, span)
fault_of (errors.TooDeep span) = Some (fault_kind.TooDeep, span)
fault_of (errors.ZeroDenominator span) = Some (fault_kind.ZeroDenominator, span)
fault_of (errors.Label span) = Some (fault_kind.Label, span)
fault_of errors.Memory = None

-- the bytes have a fault of this kind, with its place as the span
abbrev pub FaultAt : List ℕ → FaultKind × Span → Type 0
FaultAt bytes fault = (place : Place) × Fault bytes fault.0 place × (fault.1 ≡ span_at place)

-- the error is the fault of the bytes, unless memory ran out
abbrev pub IsFaultOf : List ℕ → ReadError → Type 0
IsFaultOf bytes e = IfSome (fault_of e) (FaultAt bytes)

-- the answer is these forms, unless memory ran out
abbrev pub ReadsAs : List Datum → Result (List Datum) ReadError → Type 0
ReadsAs fs (Ok gs) = gs ≡ fs
ReadsAs fs (Err e) = e ≡ errors.Memory

-- the answer is this fault, unless memory ran out
abbrev pub IsFault : FaultKind → Place → Result (List Datum) ReadError → Type 0
IsFault k place (Ok fs) = ⊥
IsFault k place (Err e) = IfSome (fault_of e) (λ fault. fault ≡ (k, span_at place))

-- the bytes are forms
abbrev pub HasForms : List ℕ → Type 0
HasForms bytes = (fs : List Datum) × Forms bytes fs

-- the bytes have a fault
abbrev pub HasFault : List ℕ → Type 0
HasFault bytes = (k : FaultKind) × (place : Place) × Fault bytes k place

-- the bytes are no forms
abbrev pub HasNoForms : List ℕ → Type 0
HasNoForms bytes = (fs : List Datum) → Forms bytes fs → ⊥
