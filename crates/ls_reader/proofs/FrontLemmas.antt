-- What a loop has read of a string or a token, in front of what is still read.
use Rattle.std.proofs.Common.{◌≡◌, ℕ, List, [], ◌∷◌, ◌++◌, Result, Ok, Err, refl, ap, append_assoc}
use Rattle.ls_reader.specs.declared.fault.FaultKind.{FaultKind}
use Rattle.ls_reader.specs.steps.Delimited.{with_first}

-- what was read before, and what is still read
abbrev pub with_front : {A : Type 0} → List A → Result (List A × List ℕ) FaultKind → Result (List A × List ℕ) FaultKind
with_front front (Ok x) = Ok (front ++ x.0, x.1)
with_front front (Err k) = Err k

-- one read before, or read next
pub with_front-push : {A : Type 0} (front : List A) (a : A) (read : Result (List A × List ℕ) FaultKind) → with_front (front ++ a ∷ []) read ≡ with_front front (with_first a read)
with_front-push {A = A} front a (Ok x) = ap (λ (all : List A). Ok (all, x.1)) (append_assoc front (a ∷ []) x.0)
with_front-push front a (Err k) = refl

-- nothing read before
pub with_front-nil : {A : Type 0} (read : Result (List A × List ℕ) FaultKind) → with_front [] read ≡ read
with_front-nil (Ok x) = refl
with_front-nil (Err k) = refl

-- the steps of a loop
pub ruleset steps = (with_front-push, with_front-nil)
