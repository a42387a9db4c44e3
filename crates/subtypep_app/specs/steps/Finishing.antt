-- How writing a report ends.
use Rattle.std.specs.Prelude.{◌≡◌, ℕ, ◌<◌, ◌⊎◌, List, length, Option}
use Rattle.ls_io.specs.Causes.{Rose}
use Rattle.ls_io.specs.Moves.{Took, TookPrefix}
use Rattle.subtypep_app.specs.declared.status.Status.{Status}
use Rattle.subtypep_app.specs.declared.status.Status.TheVariants.{SinkFault}

-- all the bytes were written and no write failed
abbrev pub WroteBytes : Option (List ℕ) → Option (List ℕ) → ℕ → ℕ → List ℕ → Type 0
WroteBytes before now faults_before faults_now bytes = Took before now bytes × (faults_now ≡ faults_before)

-- a write failed behind a prefix of the bytes, which are longer than any room that the sink had
abbrev pub FailedToWrite : (ℕ → Type 0) → Option (List ℕ) → Option (List ℕ) → ℕ → ℕ → List ℕ → Type 0
FailedToWrite HasRoom before now faults_before faults_now bytes =
    Rose faults_before faults_now × TookPrefix before now bytes × ((room : ℕ) → HasRoom room → room < length bytes)

-- all the bytes were written and the status is the result, or a write failed
abbrev pub IsFinished : (ℕ → Type 0) → Option (List ℕ) → Option (List ℕ) → ℕ → ℕ → List ℕ → Status → Status → Type 0
IsFinished HasRoom before now faults_before faults_now bytes status result =
    ((result ≡ status) × WroteBytes before now faults_before faults_now bytes)
    ⊎ ((result ≡ SinkFault) × FailedToWrite HasRoom before now faults_before faults_now bytes)
