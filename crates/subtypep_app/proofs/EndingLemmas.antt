-- How a run ends follows from what was read and what was written.
use Rattle.std.proofs.Common.{◌≡◌, ℕ, ◌<◌, ◌≤◌, inl, inr, List, length, Option, refl, subst, arith}
use Rattle.std.specs.Prelude.{⊤, encode_utf8_all}
use Rattle.std.specs.Io.KnownBytes.{IsAtEnd}
use Rattle.ls_io.specs.Moves.{Took, TookPrefix}
use Rattle.subtypep_app.specs.declared.status.Status.{Status}
use Rattle.subtypep_app.specs.declared.status.Status.TheVariants.{Clean, Found, Usage, Unreadable, SourceFault, SinkFault, Memory}
use Rattle.subtypep_app.specs.declared.words.Command.TheVariants.{Ask, Gen}
use Rattle.subtypep_app.specs.Words.{Means}
use Rattle.subtypep_app.specs.Replies.{IsTold, IsAnswered, AreTold, IsReply}
use Rattle.subtypep_app.specs.Runs.{Outside, ReplyBetween, ReadFailed, Wrote, ReadAll, IsEnded, HasReplied}
use Rattle.subtypep_app.specs.steps.Finishing.{IsFinished}
use Rattle.subtypep_app.proofs.WordLemmas.{Means-apart}

-- an answer is a reply to words that ask for it
pub IsReply-from_answer : (words : List (List ℕ)) (budget : ℕ) → Means words (Ask budget) → (text : List ℕ) (status : Status) (report : List ℕ)
    (before now : ℕ) → IsAnswered budget text status report before now → IsReply words text status report before now
IsReply-from_answer words budget is text Clean report before now right = (Ask budget, is, right)
IsReply-from_answer words budget is text Found report before now right = (Ask budget, is, right)
IsReply-from_answer words budget is text Unreadable report before now right = (Ask budget, is, right)
IsReply-from_answer words budget is text Usage report before now right = absurd right
IsReply-from_answer words budget is text SourceFault report before now right = absurd right
IsReply-from_answer words budget is text SinkFault report before now right = absurd right
IsReply-from_answer words budget is text Memory report before now right = absurd right

-- so is the report on the generated text
pub IsReply-from_told : (words : List (List ℕ)) (count budget : ℕ) → Means words (Gen count budget) → (text : List ℕ) (status : Status)
    (report : List ℕ) (before now : ℕ) → AreTold count budget status report before now → IsReply words text status report before now
IsReply-from_told words count budget is text Clean report before now right = (Gen count budget, is, right)
IsReply-from_told words count budget is text Found report before now right = (Gen count budget, is, right)
IsReply-from_told words count budget is text Unreadable report before now right = absurd right
IsReply-from_told words count budget is text Usage report before now right = absurd right
IsReply-from_told words count budget is text SourceFault report before now right = absurd right
IsReply-from_told words count budget is text SinkFault report before now right = absurd right
IsReply-from_told words count budget is text Memory report before now right = absurd right

-- with nothing left, all that words for `ask` ask for was read
pub ReadAll-at_end : (words : List (List ℕ)) (budget : ℕ) → Means words (Ask budget) → (before now : Option (List ℕ)) → IsAtEnd now
    → ReadAll words before now
ReadAll-at_end words budget means before now end (Ask other) is = end
ReadAll-at_end words budget means before now end (Gen count other) is = absurd (Means-apart words budget count other means is)

-- with nothing read, all that words for `gen` ask for was read
pub ReadAll-none : (words : List (List ℕ)) (count budget : ℕ) → Means words (Gen count budget) → (left : Option (List ℕ))
    → ReadAll words left left
ReadAll-none words count budget means left (Ask other) is = absurd (Means-apart words other count budget is means)
ReadAll-none words count budget means left (Gen other_count other) is = refl

module _ (words : List (List ℕ)) (IsSound : Type 0) (HasRoom : ℕ → Type 0) (before now : Outside) where
  -- with all read that the words ask for, a reply that was written whole is an ending
  ends_whole : (status : Status) (text report : List ℕ) → IsReply words text status report before.steps now.steps → (ReadAll words before.left now.left)
      → Wrote words before now status → IsEnded words IsSound HasRoom before now status
  ends_whole Clean text report right all wrote = (wrote, all)
  ends_whole Found text report right all wrote = (wrote, all)
  ends_whole Usage text report right all wrote = wrote
  ends_whole Unreadable text report right all wrote = wrote
  ends_whole SourceFault text report (Ask budget, is, right) all wrote = absurd right
  ends_whole SourceFault text report (Gen count budget, is, right) all wrote = absurd right
  ends_whole SinkFault text report (Ask budget, is, right) all wrote = absurd right
  ends_whole SinkFault text report (Gen count budget, is, right) all wrote = absurd right
  ends_whole Memory text report (Ask budget, is, right) all wrote = absurd right
  ends_whole Memory text report (Gen count budget, is, right) all wrote = absurd right

  -- where the UTF-8 of a right report was written, or a write failed behind a prefix of it, the run has replied
  pub HasReplied-finished : (status result : Status) (text report bytes : List ℕ)
      → IsTold before.left text → IsReply words text status report before.steps now.steps → bytes ≡ encode_utf8_all report
      → (Wrote words before now status → IsEnded words IsSound HasRoom before now status)
      → now.read_faults ≡ before.read_faults → before.write_faults ≤ now.write_faults
      → IsFinished HasRoom before.written now.written before.write_faults now.write_faults bytes status result
      → HasReplied words IsSound HasRoom before now result
  HasReplied-finished status result text report bytes told right utf8 whole kept later done =
      let reply : ReplyBetween words before now = record { text = text; told = told; status = status; report = report; right = right } in
      elim done [
        | inl all ↦ record {
          ends = rw all.0 (whole (reply, refl, subst (λ b. Took before.written now.written b) utf8 all.1.0));
          reads = λ not. kept;
          writes = λ not. all.1.1;
          reads_later = omega (arith, kept);
          writes_later = later;
        }
        | inr failed ↦ record {
          ends = rw failed.0 (
            failed.1.0,
            (
              reply,
              subst (λ b. TookPrefix before.written now.written b) utf8 failed.1.1,
              λ room has. subst (λ b. room < length b) utf8 (failed.1.2 room has),
            ),
          );
          reads = λ not. kept;
          writes = λ not. absurd (not failed.0);
          reads_later = omega (arith, kept);
          writes_later = later;
        }
      ]

  -- the same, with all read that the words ask for
  pub HasReplied-whole : (status result : Status) (text report bytes : List ℕ)
      → IsTold before.left text → IsReply words text status report before.steps now.steps → bytes ≡ encode_utf8_all report → ReadAll words before.left now.left
      → now.read_faults ≡ before.read_faults → before.write_faults ≤ now.write_faults
      → IsFinished HasRoom before.written now.written before.write_faults now.write_faults bytes status result
      → HasReplied words IsSound HasRoom before now result
  HasReplied-whole status result text report bytes told right utf8 all =
      HasReplied-finished status result text report bytes told right utf8 (ends_whole status text report right all)

  -- where memory was wanting, nothing was written and no call failed
  pub HasReplied-memory : now.written ≡ before.written → now.read_faults ≡ before.read_faults → now.write_faults ≡ before.write_faults
      → HasReplied words IsSound HasRoom before now Memory
  HasReplied-memory nothing reads writes = record {
    ends = nothing;
    reads = λ not. reads;
    writes = λ not. writes;
    reads_later = omega (arith, reads);
    writes_later = omega (arith, writes);
  }

  -- where no read fails in a run that could not have failed to read, whether the source is sound does not matter
  pub HasReplied-any : (status : Status) → HasReplied words ⊤ HasRoom before now status → HasReplied words IsSound HasRoom before now status
  HasReplied-any Clean h = record { ends = h.ends; reads = h.reads; writes = h.writes; reads_later = h.reads_later; writes_later = h.writes_later }
  HasReplied-any Found h = record { ends = h.ends; reads = h.reads; writes = h.writes; reads_later = h.reads_later; writes_later = h.writes_later }
  HasReplied-any Usage h = record { ends = h.ends; reads = h.reads; writes = h.writes; reads_later = h.reads_later; writes_later = h.writes_later }
  HasReplied-any Unreadable h = record { ends = h.ends; reads = h.reads; writes = h.writes; reads_later = h.reads_later; writes_later = h.writes_later }
  HasReplied-any SourceFault h = absurd (h.ends.2 tt)
  HasReplied-any SinkFault h = record { ends = h.ends; reads = h.reads; writes = h.writes; reads_later = h.reads_later; writes_later = h.writes_later }
  HasReplied-any Memory h = record { ends = h.ends; reads = h.reads; writes = h.writes; reads_later = h.reads_later; writes_later = h.writes_later }

  -- where a read failed, nothing was written
  pub HasReplied-read_failed : ReadFailed before now → (IsSound → ⊥) → before.read_faults ≤ now.read_faults
      → now.written ≡ before.written → now.write_faults ≡ before.write_faults → HasReplied words IsSound HasRoom before now SourceFault
  HasReplied-read_failed rose unsound later nothing writes = record {
    ends = (rose, nothing, unsound);
    reads = λ not. absurd (not refl);
    writes = λ not. writes;
    reads_later = later;
    writes_later = omega (arith, writes);
  }
