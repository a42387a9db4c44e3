-- The report on the generated text, by whether one of its queries is too large.
use Rattle.std.proofs.Common.{ℕ, ◌≡◌, ◌≤◌, Bool, true, false, List, subst}
use Rattle.std.specs.List.{AllByRecursion}
use Rattle.ls_reader.specs.declared.datum.Datum.{Datum}
use Rattle.ls_reader.specs.Forms.{Forms}
use Rattle.ls_reader.proofs.AnswerLemmas.{forms_same}
use Rattle.ls_env.specs.Environments.{environment}
use Rattle.ls_gen.specs.Generated.{generated_text}
use Rattle.ls_gen.specs.Asked.{Compares}
use Rattle.ls_gen.proofs.ReadingLemmas.{generated_read}
use Rattle.ls_gen.proofs.QueryLemmas.{queries_compare}
use Rattle.subtypep_app.specs.Tallies.{IsTally}
use Rattle.subtypep_app.specs.Replies.{AreTold}
use Rattle.subtypep_app.specs.steps.Reporting.{status_for}

-- whatever forms the generated text is read as, their queries compare two types each
none_refused : (n : ℕ) (fs : List Datum) → n ≤ 4096 → Forms (generated_text n) fs
    → AllByRecursion (Compares (environment fs)) (environment fs).queries
none_refused n fs few forms =
    let read = generated_read n few in
    let same : read.0 ≡ fs = forms_same (generated_text n) read.0 fs read.1 forms in
    subst (λ gs. AllByRecursion (Compares (environment gs)) (environment gs).queries) same (queries_compare n read.0 few read.2)

-- a tally of those forms is what is told
pub AreTold-from_tally : (count budget : ℕ) (fs : List Datum) (found : Bool) (report : List ℕ) (before now : ℕ) → count ≤ 4096
    → Forms (generated_text count) fs → IsTally budget (environment fs) found report before now
    → AreTold count budget (status_for found) report before now
AreTold-from_tally count budget fs true report before now few forms tally = (fs, forms, none_refused count fs few forms, tally)
AreTold-from_tally count budget fs false report before now few forms tally = (fs, forms, none_refused count fs few forms, tally)
