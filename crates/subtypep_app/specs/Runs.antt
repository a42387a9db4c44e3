-- What a run shows to the outside: what was written, which call failed, when the counts of failures rise, and how many
-- steps were made.
use Rattle.std.specs.Prelude.{◌≡◌, ℕ, ◌<◌, ◌≤◌, ◌⊎◌, List, length, Option}
use Rattle.ls_io.specs.Causes.{Rose}
use Rattle.ls_io.specs.Moves.{Took, TookPrefix}
use Rattle.subtypep_app.specs.declared.status.Status.{Status}
use Rattle.subtypep_app.specs.declared.status.Status.TheVariants.{Clean, Found, Usage, Unreadable, SourceFault, SinkFault, Memory}
use Rattle.subtypep_app.specs.declared.words.Command.{Command}
use Rattle.subtypep_app.specs.Words.{Means}
use Rattle.subtypep_app.specs.Replies.{Reply, bytes_of, HasRead}

-- What a source and a sink show at a moment.
pub record Outside : Type 0 where
  -- the bytes that are left to read, where the source tells them
  pub left : Option (List ℕ)
  -- the bytes that were written, where the sink tells them
  pub written : Option (List ℕ)
  -- how many reads and how many writes failed so far
  pub read_faults : ℕ
  pub write_faults : ℕ
  -- how many steps were made so far
  pub steps : ℕ

abbrev pub outside : Option (List ℕ) → Option (List ℕ) → ℕ → ℕ → ℕ → Outside
outside left written read_faults write_faults steps =
    record { left = left; written = written; read_faults = read_faults; write_faults = write_faults; steps = steps }

-- a reply to what was left before, with the steps between the two moments
abbrev pub ReplyBetween : List (List ℕ) → Outside → Outside → Type 0
ReplyBetween words before now = Reply words before.left before.steps now.steps

-- a read failed, by the source's count
abbrev pub ReadFailed : Outside → Outside → Type 0
ReadFailed before now = Rose before.read_faults now.read_faults

-- a write failed, by the sink's count
abbrev pub WriteFailed : Outside → Outside → Type 0
WriteFailed before now = Rose before.write_faults now.write_faults

-- a reply with this status was written whole
abbrev pub Wrote : List (List ℕ) → Outside → Outside → Status → Type 0
Wrote words before now status =
    (reply : ReplyBetween words before now) × (reply.status ≡ status) × Took before.written now.written (bytes_of reply)

-- a prefix of a reply was written, which is longer than any room that the sink had
abbrev pub WrotePrefix : List (List ℕ) → (ℕ → Type 0) → Outside → Outside → Type 0
WrotePrefix words HasRoom before now =
    (reply : ReplyBetween words before now) × TookPrefix before.written now.written (bytes_of reply)
    × ((room : ℕ) → HasRoom room → room < length (bytes_of reply))

abbrev pub WroteNothing : Outside → Outside → Type 0
WroteNothing before now = now.written ≡ before.written

-- what the words ask to be read was read
abbrev pub ReadAll : List (List ℕ) → Option (List ℕ) → Option (List ℕ) → Type 0
ReadAll words before now = (command : Command) → Means words command → HasRead command before now

-- How a run with these words ends, by its status. The source never fails where `IsSound`, and the sink has room for so
-- many bytes where `HasRoom`.
abbrev pub IsEnded : List (List ℕ) → Type 0 → (ℕ → Type 0) → Outside → Outside → Status → Type 0
IsEnded words IsSound HasRoom before now Clean = Wrote words before now Clean × ReadAll words before.left now.left
IsEnded words IsSound HasRoom before now Found = Wrote words before now Found × ReadAll words before.left now.left
IsEnded words IsSound HasRoom before now Usage = Wrote words before now Usage
IsEnded words IsSound HasRoom before now Unreadable = Wrote words before now Unreadable
IsEnded words IsSound HasRoom before now SourceFault = ReadFailed before now × WroteNothing before now × (IsSound → ⊥)
IsEnded words IsSound HasRoom before now SinkFault = WriteFailed before now × WrotePrefix words HasRoom before now
IsEnded words IsSound HasRoom before now Memory = WroteNothing before now

-- What was written and which call failed, by the status; and the counts of failures, which never fall.
pub record HasReplied (words : List (List ℕ)) (IsSound : Type 0) (HasRoom : ℕ → Type 0) (before now : Outside) (status : Status) : Type 0 where
  pub ends : IsEnded words IsSound HasRoom before now status
  -- a failed read is answered by the status that says so, and so is a failed write
  pub reads : (status ≡ SourceFault → ⊥) → now.read_faults ≡ before.read_faults
  pub writes : (status ≡ SinkFault → ⊥) → now.write_faults ≡ before.write_faults
  pub reads_later : before.read_faults ≤ now.read_faults
  pub writes_later : before.write_faults ≤ now.write_faults

-- the usage line was to be written
abbrev pub IsUsage : Status → Type 0
IsUsage status = (status ≡ Usage) ⊎ (status ≡ SinkFault)
