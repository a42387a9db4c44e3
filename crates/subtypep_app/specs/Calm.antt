-- What a run answers where no call fails.
use Rattle.std.specs.Prelude.{◌≡◌, ℕ, ◌<◌, ◌≤◌, ◌⊎◌, ⊤, List, length, Option, Some}
use Rattle.ls_io.specs.Moves.{limit}
use Rattle.ls_reader.specs.declared.datum.Datum.{Datum}
use Rattle.ls_reader.specs.Forms.{Forms}
use Rattle.ls_reader.specs.Answers.{HasNoForms}
use Rattle.subtypep_app.specs.declared.status.Status.{Status}
use Rattle.subtypep_app.specs.declared.status.Status.TheVariants.{Clean, Found, Unreadable, Memory}
use Rattle.subtypep_app.specs.declared.words.Command.{Command}
use Rattle.subtypep_app.specs.declared.words.Command.TheVariants.{Ask, Gen}
use Rattle.subtypep_app.specs.Words.{Means}
use Rattle.subtypep_app.specs.Runs.{Outside, ReadFailed, WriteFailed, HasReplied}
use Rattle.subtypep_app.specs.Deciding.{AllDecided}

-- the source told this text, if the command reads one
abbrev pub TellsText : Command → Option (List ℕ) → List ℕ → Type 0
TellsText (Ask budget) left text = left ≡ Some text
TellsText (Gen count budget) left text = ⊤

-- The words mean this command, the source told this text, and no call failed.
pub record NoCallFailed (words : List (List ℕ)) (command : Command) (text : List ℕ) (before now : Outside) : Type 0 where
  pub meant : Means words command
  pub told : TellsText command before.left text
  pub reads : ReadFailed before now → ⊥
  pub writes : WriteFailed before now → ⊥

-- the text is too long, or has no forms
abbrev pub IsUnreadable : List ℕ → Type 0
IsUnreadable text = (limit < length text) ⊎ HasNoForms text

-- the text was answered, unless memory was wanting
abbrev pub IsAnsweredBy : Status → Type 0
IsAnsweredBy Clean = ⊤
IsAnsweredBy Found = ⊤
IsAnsweredBy Memory = ⊤
IsAnsweredBy _ = ⊥

-- the text was refused, unless memory was wanting
abbrev pub IsRefusedBy : Status → Type 0
IsRefusedBy Unreadable = ⊤
IsRefusedBy Memory = ⊤
IsRefusedBy _ = ⊥

-- A text with forms is answered, and any other is refused.
pub record IsAnsweredOrRefused (text : List ℕ) (status : Status) : Type 0 where
  pub answered : (fs : List Datum) → length text ≤ limit → Forms text fs → IsAnsweredBy status
  pub refused : IsUnreadable text → IsRefusedBy status

abbrev pub IsCompleteFor : Command → List ℕ → Status → Type 0
IsCompleteFor (Ask budget) text status = IsAnsweredOrRefused text status
IsCompleteFor (Gen count budget) text status = IsAnsweredBy status

-- the status says what the command asks to be told, where no call failed
abbrev pub IsComplete : List (List ℕ) → Outside → Outside → Status → Type 0
IsComplete words before now status = (command : Command) (text : List ℕ)
    → NoCallFailed words command text before now
    → IsCompleteFor command text status

-- with `ask` each query of a text is decided within its budget, where no call failed and memory was not wanting
abbrev pub DecidesAll : List (List ℕ) → Outside → Outside → Status → Type 0
DecidesAll words before now status = (budget : ℕ) (text : List ℕ) (fs : List Datum)
    → NoCallFailed words (Ask budget) text before now
    → (status ≡ Memory → ⊥)
    → length text ≤ limit
    → Forms text fs
    → AllDecided budget fs before.written now.written

-- What holds of a run with these words, between the moments before and now.
pub record HasRun (words : List (List ℕ)) (IsSound : Type 0) (HasRoom : ℕ → Type 0) (before now : Outside) (status : Status) : Type 0 where
  -- what was written, and which call failed, by the status; no failed call is passed over
  pub replied : HasReplied words IsSound HasRoom before now status
  -- where no call fails, a text with forms is answered and any other refused, unless memory is wanting
  pub complete : IsComplete words before now status
  -- then the line of each query whose types resolve says TooLarge exactly where the cost is more than the budget, and
  -- else Yes exactly where the first is included in the second, or it shows an object that is in the first and not in
  -- the second; the line of any other query says what is wrong with it, and where
  pub decided : DecidesAll words before now status
