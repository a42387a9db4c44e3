-- What a text says is one thing, and what was answered is that.
use Rattle.std.proofs.Common.{◌≡◌, ℕ, ◌≤◌, ◌⊎◌, inl, inr, Bool, true, false, List, [], ◌∷◌, length, take, Option, Some, None, Result, Ok, Err, refl, sym, ap, subst, ◌∙◌, arith}
use Rattle.std.specs.Prelude.{IfSome}
use Rattle.std.specs.Str.{chars, IsUtf8, is_utf8}
use Rattle.std.specs.Str.Lossy.{utf8_valid_len}
use Rattle.std.proofs.lemmas.Bool.{false≢true}
use lib.Utf8.{encodes}
use Rattle.std.proofs.lemmas.Str.{encodes-chars, length-le-encodes, IsUtf8-from_is_utf8, is_utf8-from_IsUtf8}
use Rattle.ls_reader.specs.declared.place.Place.{Place}
use Rattle.ls_reader.specs.declared.datum.Datum.{Datum}
use Rattle.ls_reader.specs.declared.datum.Span.{Span}
use Rattle.ls_reader.specs.declared.fault.FaultKind.{FaultKind}
use Rattle.ls_reader.specs.declared.fault.FaultKind.TheVariants.{NotUtf8}
use Rattle.ls_reader.specs.declared.fault.Failure.{Failure}
use Rattle.ls_reader.specs.declared.fault.Failure.TheVariants as failure
use Rattle.ls_reader.specs.declared.fault.ReadError.{ReadError}
use Rattle.ls_reader.specs.declared.fault.ReadError.TheVariants as errors
use Rattle.ls_reader.specs.Places.{start, after_all, span_at}
use Rattle.ls_reader.specs.Forms.{Forms, FormsIn}
use Rattle.ls_reader.specs.Faults.{Fault}
use Rattle.ls_reader.specs.Answers.{fault_of, FaultAt, IsFaultOf, HasForms, HasFault}
use Rattle.ls_reader.specs.steps.Running.{fault_of_failure, FailsAt}
use Rattle.ls_reader.proofs.OneAnswerLaw.{outcome, forms_outcome, fault_outcome, Settles, outcome_settles}

-- ---- characters

-- a text has no more characters than bytes
pub chars_short : (bytes cs : List ℕ) → IsUtf8 bytes → cs ≡ chars bytes → length cs ≤ length bytes
chars_short bytes cs utf8 e =
    let whole : length (encodes (chars bytes)) ≡ length bytes = ap length (encodes-chars bytes utf8) in
    omega (arith, ap length e, whole, length-le-encodes (chars bytes))

-- ---- one answer

abbrev Outcome : Type 0
Outcome = Result (List Datum) (FaultKind × Place)

same_ok : (r : Outcome) (fs gs : List Datum) → r ≡ Ok fs → r ≡ Ok gs → fs ≡ gs
same_ok r fs gs a b = cc

same_err : (r : Outcome) (k l : FaultKind) (p q : Place) → r ≡ Err (k, p) → r ≡ Err (l, q) → (k ≡ l) × (p ≡ q)
same_err r k l p q a b =
    let e : (k, p) ≡ (l, q) = cc in (ap (λ (x : FaultKind × Place). x.0) e, ap (λ (x : FaultKind × Place). x.1) e)

not_both : (r : Outcome) (fs : List Datum) (x : FaultKind × Place) → r ≡ Ok fs → r ≡ Err x → ⊥
not_both r fs x a b = cc

-- a text is at most one list of forms
pub forms_same : (bytes : List ℕ) (fs gs : List Datum) → Forms bytes fs → Forms bytes gs → fs ≡ gs
forms_same bytes fs gs a b = same_ok (outcome (chars bytes)) fs gs (forms_outcome (chars bytes) fs a.1) (forms_outcome (chars bytes) gs b.1)

-- a text has at most one fault
pub fault_same : (bytes : List ℕ) (k l : FaultKind) (p q : Place) → Fault bytes k p → Fault bytes l q → (k ≡ l) × (p ≡ q)
fault_same bytes k l p q (inl a) (inl b) = (a.kind ∙ sym b.kind, a.stands ∙ sym b.stands)
fault_same bytes k l p q (inl a) (inr b) = absurd (a.not_utf8 b.0)
fault_same bytes k l p q (inr a) (inl b) = absurd (b.not_utf8 a.0)
fault_same bytes k l p q (inr a) (inr b) = same_err (outcome (chars bytes)) k l p q (fault_outcome (chars bytes) k p a.1) (fault_outcome (chars bytes) l q b.1)

-- forms have no fault
pub forms_apart : (bytes : List ℕ) (fs : List Datum) (k : FaultKind) (p : Place) → Forms bytes fs → Fault bytes k p → ⊥
forms_apart bytes fs k p a (inl b) = b.not_utf8 a.0
forms_apart bytes fs k p a (inr b) = not_both (outcome (chars bytes)) fs (k, p) (forms_outcome (chars bytes) fs a.1) (fault_outcome (chars bytes) k p b.1)

-- characters with an outcome have forms or a fault
characters_settled : (bytes : List ℕ) → IsUtf8 bytes → (r : Result (List Datum) (FaultKind × Place)) → Settles (chars bytes) r → HasForms bytes ⊎ HasFault bytes
characters_settled bytes utf8 (Ok fs) h = inl (fs, (utf8, h))
characters_settled bytes utf8 (Err x) h = inr (x.0, x.1, inr (utf8, h))

-- bytes that are not UTF-8 have that fault
not_text : (bytes : List ℕ) → is_utf8 bytes ≡ false → HasFault bytes
not_text bytes e = (
  NotUtf8,
  after_all start (chars (take (utf8_valid_len bytes) bytes)),
  inl (record { not_utf8 = λ utf8. absurd (false≢true (sym e ∙ is_utf8-from_IsUtf8 bytes utf8)); kind = refl; stands = refl }),
)

-- by whether the bytes are UTF-8
settled_when : (bytes : List ℕ) (utf8 : Bool) → is_utf8 bytes ≡ utf8 → HasForms bytes ⊎ HasFault bytes
settled_when bytes true e = characters_settled bytes (IsUtf8-from_is_utf8 bytes e) (outcome (chars bytes)) (outcome_settles (chars bytes))
settled_when bytes false e = inr (not_text bytes e)

-- each text has forms or a fault
pub settled : (bytes : List ℕ) → HasForms bytes ⊎ HasFault bytes
settled bytes = settled_when bytes (is_utf8 bytes) refl

-- ---- what was answered

-- a failure tells the fault of the bytes
fault_at : (bytes : List ℕ) (x : Failure) → FailsAt bytes x → IfSome (fault_of_failure x) (FaultAt bytes)
fault_at bytes failure.Memory h = tt
fault_at bytes (failure.Fault k place) h = (place, h, refl)

-- the error of a failure is the fault of the bytes
pub error_is_fault : (bytes : List ℕ) (x : Failure) (e : ReadError) → FailsAt bytes x → fault_of e ≡ fault_of_failure x → IsFaultOf bytes e
error_is_fault bytes x e h is = rw is (fault_at bytes x h)

-- an error that tells no fault is want of memory
memory_or_fault : (e : ReadError) → ((fault : FaultKind × Span) → fault_of e ≡ Some fault → ⊥) → e ≡ errors.Memory
memory_or_fault errors.Memory h = refl
memory_or_fault (errors.NotUtf8 span) h = absurd (h _ refl)
memory_or_fault (errors.BadToken span) h = absurd (h _ refl)
memory_or_fault (errors.StrayClose span) h = absurd (h _ refl)
memory_or_fault (errors.Unclosed span) h = absurd (h _ refl)
memory_or_fault (errors.BadDot span) h = absurd (h _ refl)
memory_or_fault (errors.TooDeep span) h = absurd (h _ refl)
memory_or_fault (errors.ZeroDenominator span) h = absurd (h _ refl)
memory_or_fault (errors.Label span) h = absurd (h _ refl)

-- bytes whose fault was answered are no forms
pub error_reads : (bytes : List ℕ) (e : ReadError) → IsFaultOf bytes e → (fs : List Datum) → Forms bytes fs → e ≡ errors.Memory
error_reads bytes e err fs h =
    memory_or_fault e (λ fault is. let found = subst (λ (o : Option (FaultKind × Span)). IfSome o (FaultAt bytes)) is err in forms_apart bytes fs fault.0 found.0 h found.1)

-- bytes with a fault have no other one
same_fault : (bytes : List ℕ) (k : FaultKind) (p : Place) (o : Option (FaultKind × Span)) → Fault bytes k p → IfSome o (FaultAt bytes) → IfSome o (λ x. x ≡ (k, span_at p))
same_fault bytes k p None h found = tt
same_fault bytes k p (Some x) h found =
    let same = fault_same bytes x.0 k found.0 p found.1 h in
    let spans : x.1 ≡ span_at p = found.2 ∙ ap span_at same.1 in
    ap (λ (l : FaultKind). (l, x.1)) same.0 ∙ ap (λ (s : Span). (k, s)) spans

-- the fault of the bytes is the one that was answered
pub error_refuses : (bytes : List ℕ) (e : ReadError) → IsFaultOf bytes e → (k : FaultKind) (p : Place) → Fault bytes k p → IfSome (fault_of e) (λ x. x ≡ (k, span_at p))
error_refuses bytes e err k p h = same_fault bytes k p (fault_of e) h err
