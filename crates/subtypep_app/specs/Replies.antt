-- What replies to the words of the command line and to a text: a status and a whole report.
use Rattle.std.specs.Prelude.{◌≡◌, ℕ, ◌<◌, ◌≤◌, ◌⊎◌, Bool, true, false, List, [], ◌∷◌, ◌++◌, length, codes, encode_utf8_all, Option, Some, None, ⊤}
use Rattle.std.specs.Io.KnownBytes.{IsAtEnd}
use Rattle.ls_io.specs.Moves.{limit}
use Rattle.ls_reader.specs.declared.datum.Datum.{Datum}
use Rattle.ls_reader.specs.declared.fault.ReadError.{ReadError}
use Rattle.ls_reader.specs.declared.fault.ReadError.TheVariants as errors
use Rattle.ls_reader.specs.Forms.{Forms}
use Rattle.ls_reader.specs.Answers.{IsFaultOf}
use Rattle.subtypep_app.specs.declared.status.Status.{Status}
use Rattle.subtypep_app.specs.declared.status.Status.TheVariants.{Clean, Found, Usage, Unreadable, SourceFault, SinkFault, Memory}
use Rattle.subtypep_app.specs.declared.words.Command.{Command}
use Rattle.subtypep_app.specs.declared.words.Command.TheVariants.{Ask, Gen}
use Rattle.subtypep_app.specs.Words.{Means, MeanNothing}
use Rattle.ls_env.specs.Environments.{environment}
use Rattle.subtypep_app.specs.Report.{IsReport, fault_text, too_long_text}
use Rattle.subtypep_app.specs.Charges.{AreCharged}
use Rattle.subtypep_app.specs.Tallies.{IsGenerated}

-- the error is the fault of the text, at its place; a text with a fault has no forms
pub record IsRefusedWith (text : List ℕ) (e : ReadError) : Type 0 where
  pub no_memory : e ≡ errors.Memory → ⊥
  pub fault : IsFaultOf text e

-- A text that can be read has this report, under a budget; between two counts of steps its queries were charged.
abbrev pub IsReportOf : ℕ → List ℕ → Bool → List ℕ → ℕ → ℕ → Type 0
IsReportOf budget text found report before now =
    (length text ≤ limit)
    × (fs : List Datum) × Forms text fs × IsReport budget fs found report × AreCharged budget (environment fs) before now

-- A text is answered by this status and this whole report, as characters, under a budget, between two counts of steps.
abbrev pub IsAnswered : ℕ → List ℕ → Status → List ℕ → ℕ → ℕ → Type 0
IsAnswered budget text Clean report before now = IsReportOf budget text false report before now
IsAnswered budget text Found report before now = IsReportOf budget text true report before now
IsAnswered budget text Unreadable report before now =
    ((limit < length text) × (report ≡ too_long_text))
    ⊎ ((length text ≤ limit) × (e : ReadError) × IsRefusedWith text e × (report ≡ fault_text e))
IsAnswered budget text Usage report before now = ⊥
IsAnswered budget text SourceFault report before now = ⊥
IsAnswered budget text SinkFault report before now = ⊥
IsAnswered budget text Memory report before now = ⊥

-- A count is replied to by this status and this whole report on the text generated for it.
abbrev pub AreTold : (count budget : ℕ) → Status → List ℕ → ℕ → ℕ → Type 0
AreTold count budget Clean report before now = IsGenerated count budget false report before now
AreTold count budget Found report before now = IsGenerated count budget true report before now
AreTold count budget Unreadable report before now = ⊥
AreTold count budget Usage report before now = ⊥
AreTold count budget SourceFault report before now = ⊥
AreTold count budget SinkFault report before now = ⊥
AreTold count budget Memory report before now = ⊥

abbrev pub usage_text : List ℕ
usage_text = codes "usage: subtypep_app ask|check|gen N [--budget N]" ++ 10 ∷ []

-- A command replies to a text by this status and this whole report, as characters, between two counts of steps.
abbrev pub RepliesTo : Command → List ℕ → Status → List ℕ → ℕ → ℕ → Type 0
RepliesTo (Ask budget) text status report before now = IsAnswered budget text status report before now
RepliesTo (Gen count budget) text status report before now = AreTold count budget status report before now

-- The words, and a text if they mean a command, are replied to by this status and this whole report.
abbrev pub IsReply : List (List ℕ) → List ℕ → Status → List ℕ → ℕ → ℕ → Type 0
IsReply words text Usage report before now = MeanNothing words × (report ≡ usage_text)
IsReply words text status report before now =
    (command : Command) × Means words command × RepliesTo command text status report before now

-- the text is what was left, where that is told
abbrev pub IsTold : Option (List ℕ) → List ℕ → Type 0
IsTold None text = ⊤
IsTold (Some bytes) text = bytes ≡ text

-- A reply to the words and to what a source had left, between two counts of steps.
pub record Reply (words : List (List ℕ)) (left : Option (List ℕ)) (before now : ℕ) : Type 0 where
  -- what was left to read, where that is told
  pub text : List ℕ
  pub told : IsTold left text
  -- the status and the whole report, as characters, that are right for the words and the text
  pub status : Status
  pub report : List ℕ
  pub right : IsReply words text status report before now

-- the report in UTF-8
abbrev pub bytes_of : {words : List (List ℕ)} {left : Option (List ℕ)} {before now : ℕ} → Reply words left before now → List ℕ
bytes_of reply = encode_utf8_all reply.report

-- what the command reads was read: `ask` reads its text to the end, and `gen` nothing
abbrev pub HasRead : Command → Option (List ℕ) → Option (List ℕ) → Type 0
HasRead (Ask budget) before now = IsAtEnd now
HasRead (Gen count budget) before now = now ≡ before
