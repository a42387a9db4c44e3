-- What a run answers where no call fails follows from how it ended.
use Rattle.std.proofs.Common.{◌≡◌, ℕ, ◌≤◌, inl, inr, List, length, Bool, true, false, Option, Some, refl, ap, sym, subst, arith}
use Rattle.std.specs.Prelude.{encode_utf8_all}
use Rattle.ls_io.specs.Moves.{limit, Took}
use Rattle.ls_reader.specs.declared.datum.Datum.{Datum}
use Rattle.ls_reader.specs.Forms.{Forms}
use Rattle.ls_reader.proofs.AnswerLemmas.{error_reads, forms_same}
use Rattle.subtypep_app.specs.declared.status.Status.{Status}
use Rattle.subtypep_app.specs.declared.status.Status.TheVariants.{Clean, Found, Usage, Unreadable, SourceFault, SinkFault, Memory}
use Rattle.subtypep_app.specs.declared.words.Command.{Command}
use Rattle.subtypep_app.specs.declared.words.Command.TheVariants.{Ask, Gen}
use Rattle.subtypep_app.specs.Words.{Means}
use Rattle.subtypep_app.specs.Report.{IsReport}
use Rattle.subtypep_app.specs.Replies.{IsTold, IsReportOf, IsAnswered, RepliesTo, IsReply}
use Rattle.subtypep_app.specs.Runs.{Outside, IsEnded, HasReplied}
use Rattle.subtypep_app.specs.Deciding.{AllDecided}
use Rattle.subtypep_app.specs.Calm.{NoCallFailed, IsUnreadable, IsAnsweredBy, IsAnsweredOrRefused, IsComplete, DecidesAll, HasRun}
use Rattle.subtypep_app.proofs.WordLemmas.{Means-one, Means-apart}
use Rattle.subtypep_app.proofs.ToldLemmas.{IsTold-unique}
use Rattle.subtypep_app.proofs.LineLemmas.{AllDecided-from_report}

-- what replies to words for `ask` is an answer
answer_of : (words : List (List ℕ)) (budget : ℕ) → Means words (Ask budget) → (text report : List ℕ) (status : Status) (before now : ℕ)
    → (command : Command) × Means words command × RepliesTo command text status report before now
    → IsAnswered budget text status report before now
answer_of words budget meant text report status before now (Ask other, means, right) =
    subst (λ n. IsAnswered n text status report before now) (Means-one words other budget means meant) right
answer_of words budget meant text report status before now (Gen count other, means, right) =
    absurd (Means-apart words budget count other meant means)

-- words for `gen` are not replied to as a text that can't be read
never_unreadable : (words : List (List ℕ)) (count budget : ℕ) → Means words (Gen count budget) → (text report : List ℕ) (before now : ℕ)
    → IsReply words text Unreadable report before now → ⊥
never_unreadable words count budget meant text report before now (Ask other, means, right) =
    Means-apart words other count budget means meant
never_unreadable words count budget meant text report before now (Gen n other, means, right) = right

-- a text that was read as forms is not unreadable
read_not_refused : (left : Option (List ℕ)) (text read : List ℕ) (fs : List Datum) → left ≡ Some text → IsTold left read → length read ≤ limit → Forms read fs
    → IsUnreadable text → ⊥
read_not_refused left text read fs told is short forms bad =
    let same : text ≡ read = IsTold-unique left text read told is in
    elim bad [
      | inl long ↦ omega (arith, short, long, ap length same)
      | inr none ↦ none fs (subst (λ bytes. Forms bytes fs) (sym same) forms)
    ]

-- a text that was refused has no forms, or is too long
refused_not_read : (budget : ℕ) (left : Option (List ℕ)) (text read report : List ℕ) (before now : ℕ) (fs : List Datum)
    → left ≡ Some text → IsTold left read → IsAnswered budget read Unreadable report before now
    → length text ≤ limit → Forms text fs → ⊥
refused_not_read budget left text read report before now fs told is right short forms =
    let same : text ≡ read = IsTold-unique left text read told is in
    elim right [
      | inl long ↦ omega (arith, short, long.0, ap length same)
      | inr fault ↦ fault.2.no_memory (error_reads read fault.1 fault.2.fault fs (subst (λ bytes. Forms bytes fs) same forms))
    ]

module _ (words : List (List ℕ)) (before now : Outside) (budget : ℕ) (text : List ℕ) (calm : NoCallFailed words (Ask budget) text before now) where
  -- the report that was written is that of the text, as it was read
  of_report : (found : Bool) (read report : List ℕ) → IsTold before.left read → IsReportOf budget read found report before.steps now.steps → IsUnreadable text → ⊥
  of_report found read report is right = read_not_refused before.left text read right.1 calm.told is right.0 right.2

  decides_report : (found : Bool) (read report : List ℕ) (fs : List Datum) → IsTold before.left read → IsReportOf budget read found report before.steps now.steps
      → Forms text fs → Took before.written now.written (encode_utf8_all report) → AllDecided budget fs before.written now.written
  decides_report found read report fs is right forms took =
      let one_text : text ≡ read = IsTold-unique before.left text read calm.told is in
      let one_list : right.1 ≡ fs = forms_same read right.1 fs right.2 (subst (λ bytes. Forms bytes fs) one_text forms) in
      AllDecided-from_report budget fs found report before.written now.written (subst (λ hs. IsReport budget hs found report) one_list right.3) took

module _ (words : List (List ℕ)) (IsSound : Type 0) (HasRoom : ℕ → Type 0) (before now : Outside) where
  -- where no call failed, a text with forms is answered and any other refused
  complete : (status : Status) → IsEnded words IsSound HasRoom before now status → (budget : ℕ) (text : List ℕ)
      → NoCallFailed words (Ask budget) text before now → IsAnsweredOrRefused text status
  complete Clean e budget text calm =
      let reply = e.0.0 in
      let right = answer_of words budget calm.meant reply.text reply.report Clean before.steps now.steps (subst (λ s. IsReply words reply.text s reply.report before.steps now.steps) e.0.1 reply.right) in
      record { answered = λ fs short forms. tt; refused = λ bad. of_report words before now budget text calm false reply.text reply.report reply.told right bad }
  complete Found e budget text calm =
      let reply = e.0.0 in
      let right = answer_of words budget calm.meant reply.text reply.report Found before.steps now.steps (subst (λ s. IsReply words reply.text s reply.report before.steps now.steps) e.0.1 reply.right) in
      record { answered = λ fs short forms. tt; refused = λ bad. of_report words before now budget text calm true reply.text reply.report reply.told right bad }
  complete Unreadable e budget text calm =
      let reply = e.0 in
      let right = answer_of words budget calm.meant reply.text reply.report Unreadable before.steps now.steps (subst (λ s. IsReply words reply.text s reply.report before.steps now.steps) e.1 reply.right) in
      record { answered = λ fs short forms. refused_not_read budget before.left text reply.text reply.report before.steps now.steps fs calm.told reply.told right short forms; refused = λ bad. tt }
  complete Memory e budget text calm = record { answered = λ fs short forms. tt; refused = λ bad. tt }
  complete Usage e budget text calm =
      absurd (let right = subst (λ s. IsReply words e.0.text s e.0.report before.steps now.steps) e.1 e.0.right in right.0 (Ask budget) calm.meant)
  complete SourceFault e budget text calm = absurd (calm.reads e.0)
  complete SinkFault e budget text calm = absurd (calm.writes e.0)

  -- and each query of the text is decided, where memory was not wanting
  decided : (status : Status) → IsEnded words IsSound HasRoom before now status → DecidesAll words before now status
  decided Clean e budget text fs calm enough short forms =
      let reply = e.0.0 in
      let right = answer_of words budget calm.meant reply.text reply.report Clean before.steps now.steps (subst (λ s. IsReply words reply.text s reply.report before.steps now.steps) e.0.1 reply.right) in
      decides_report words before now budget text calm false reply.text reply.report fs reply.told right forms e.0.2
  decided Found e budget text fs calm enough short forms =
      let reply = e.0.0 in
      let right = answer_of words budget calm.meant reply.text reply.report Found before.steps now.steps (subst (λ s. IsReply words reply.text s reply.report before.steps now.steps) e.0.1 reply.right) in
      decides_report words before now budget text calm true reply.text reply.report fs reply.told right forms e.0.2
  decided Memory e budget text fs calm enough short forms = absurd (enough refl)
  decided Usage e budget text fs calm enough short forms = absurd ((complete Usage e budget text calm).answered fs short forms)
  decided Unreadable e budget text fs calm enough short forms = absurd ((complete Unreadable e budget text calm).answered fs short forms)
  decided SourceFault e budget text fs calm enough short forms = absurd (calm.reads e.0)
  decided SinkFault e budget text fs calm enough short forms = absurd (calm.writes e.0)

  -- where no call failed, `gen` tells its numbers
  told : (status : Status) → IsEnded words IsSound HasRoom before now status → (count budget : ℕ) (text : List ℕ)
      → NoCallFailed words (Gen count budget) text before now → IsAnsweredBy status
  told Clean e count budget text calm = tt
  told Found e count budget text calm = tt
  told Memory e count budget text calm = tt
  told Usage e count budget text calm =
      (let right = subst (λ s. IsReply words e.0.text s e.0.report before.steps now.steps) e.1 e.0.right in
      right.0 (Gen count budget) calm.meant)
  told Unreadable e count budget text calm =
      let right = subst (λ s. IsReply words e.0.text s e.0.report before.steps now.steps) e.1 e.0.right in
      never_unreadable words count budget calm.meant e.0.text e.0.report before.steps now.steps right
  told SourceFault e count budget text calm = calm.reads e.0
  told SinkFault e count budget text calm = calm.writes e.0

  is_complete : (status : Status) → IsEnded words IsSound HasRoom before now status → IsComplete words before now status
  is_complete status e (Ask budget) text calm = complete status e budget text calm
  is_complete status e (Gen count budget) text calm = told status e count budget text calm

  -- a run that has replied has all that is said of runs
  pub HasRun-replied : (status : Status) → HasReplied words IsSound HasRoom before now status → HasRun words IsSound HasRoom before now status
  HasRun-replied status replied = record {
    replied = replied;
    complete = is_complete status replied.ends;
    decided = decided status replied.ends;
  }
