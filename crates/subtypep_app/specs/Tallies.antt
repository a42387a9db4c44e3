-- The report on the generated text: how many queries there are, and how many of each answer.
use Rattle.std.specs.Prelude.{ℕ, ◌≡◌, ◌≤◌, ◌+◌, nat_lt, Bool, true, false, List, [], ◌∷◌, ◌++◌, length, filter, codes, decimal}
use Rattle.std.specs.List.{AllZip, AllByRecursion}
use Rattle.ls_reader.specs.declared.datum.Datum.{Datum}
use Rattle.ls_reader.specs.Forms.{Forms}
use Rattle.ls_lists.specs.Costs.{charge}
use Rattle.ls_lists.specs.Costs as costs
use Rattle.ls_env.specs.declared.query.Query.{Query}
use Rattle.ls_env.specs.Environments.{Environment, environment}
use Rattle.ls_decide.specs.declared.answer.Answer.TheVariants.{Yes, No, Unsure, TooLarge}
use Rattle.ls_gen.specs.Generated.{generated_text}
use Rattle.ls_gen.specs.Asked.{Compares}
use Rattle.subtypep_app.specs.declared.line.Line.{Line}
use Rattle.subtypep_app.specs.declared.line.Line.TheVariants.{Answered, Placed, Refused, NoObject}
use Rattle.subtypep_app.specs.declared.tally.Verdict.{Verdict}
use Rattle.subtypep_app.specs.declared.tally.Verdict.TheVariants as verdict
use Rattle.subtypep_app.specs.Report.{IsLineOf}
use Rattle.subtypep_app.specs.Charges.{IsChargedFor, all_of, fewest}

-- what a line is counted as
abbrev pub verdict_of : Line → Verdict
verdict_of (Answered Yes) = verdict.Included
verdict_of (Answered (No o)) = verdict.NotIncluded
verdict_of (Answered (Unsure o)) = verdict.Other
verdict_of (Answered TooLarge) = verdict.TooLarge
verdict_of (Placed answer) = verdict.Other
verdict_of (Refused x) = verdict.Other
verdict_of (NoObject x) = verdict.Other

-- the verdict is that of a right line for the query
abbrev pub IsVerdictOn : ℕ → Environment → Query → Verdict → Type 0
IsVerdictOn budget env query v = (line : Line) × IsLineOf budget env query line × (v ≡ verdict_of line)

abbrev pub same_verdict : Verdict → Verdict → Bool
same_verdict verdict.Included verdict.Included = true
same_verdict verdict.NotIncluded verdict.NotIncluded = true
same_verdict verdict.TooLarge verdict.TooLarge = true
same_verdict verdict.Other verdict.Other = true
same_verdict _ _ = false

-- how many of the verdicts are this one
abbrev pub count_of : Verdict → List Verdict → ℕ
count_of v verdicts = length (filter (λ w. same_verdict v w) verdicts)

-- the line of a word and a number
abbrev pub count_line : List ℕ → ℕ → List ℕ
count_line word n = word ++ codes " " ++ decimal n ++ 10 ∷ []

abbrev pub tally_text : (queries included others too_large rows : ℕ) → List ℕ
tally_text queries included others too_large rows =
    count_line (codes "QUERIES") queries ++ count_line (codes "T") included ++ count_line (codes "NIL") others
    ++ count_line (codes "TOO-LARGE") too_large ++ count_line (codes "ROWS") rows

-- The report on the queries of forms under a budget: how many there are, for how many the answer is T, NIL and
-- TOO-LARGE, and how many rows were made for them, between two counts of steps. It is a finding where one is too large.
pub record IsTally (budget : ℕ) (env : Environment) (found : Bool) (report : List ℕ) (before now : ℕ) : Type 0 where
  pub verdicts : List Verdict
  pub right : AllZip (IsVerdictOn budget env) env.queries verdicts
  pub rows : ℕ
  pub text : report ≡ tally_text (length env.queries) (count_of verdict.Included verdicts)
      (count_of verdict.NotIncluded verdicts) (count_of verdict.TooLarge verdicts) rows
  pub found_is : found ≡ nat_lt 0 (count_of verdict.TooLarge verdicts)
  pub asked : List (List costs.Question)
  pub charged : AllZip (IsChargedFor budget env) env.queries asked
  -- the rows are no more than the steps, and those no more than the charge
  pub made : rows + before ≤ now
  pub steps : now ≤ before + charge (all_of asked)
  -- each list that an answer needs has a row
  pub enough : fewest (all_of asked) ≤ rows

-- The report on the text that is generated for a count: each of its queries compares two types, and none is refused.
abbrev pub IsGenerated : (count budget : ℕ) → Bool → List ℕ → ℕ → ℕ → Type 0
IsGenerated count budget found report before now =
    (fs : List Datum) × Forms (generated_text count) fs
    × AllByRecursion (Compares (environment fs)) (environment fs).queries
    × IsTally budget (environment fs) found report before now
