-- The numbers of a tally on the way, and their lines.
use Rattle.std.specs.Prelude.{ℕ, ◌≡◌, ◌≤◌, ◌+◌, List, length}
use Rattle.std.specs.List.{AllZip}
use Rattle.ls_lists.specs.Costs.{charge}
use Rattle.ls_lists.specs.Costs as costs
use Rattle.ls_env.specs.Environments.{Environment}
use Rattle.subtypep_app.specs.declared.tally.Verdict.{Verdict}
use Rattle.subtypep_app.specs.declared.tally.Verdict.TheVariants as verdict
use Rattle.subtypep_app.specs.declared.tally.Tally.{Tally}
use Rattle.subtypep_app.specs.Charges.{IsChargedFor, all_of, fewest}
use Rattle.subtypep_app.specs.Tallies.{IsVerdictOn, count_of, tally_text}

-- the lines of the numbers
abbrev pub text_of_tally : Tally → List ℕ
text_of_tally t = tally_text t.queries t.yes t.no t.too_large t.rows

-- the numbers are those of the queries, between two counts of steps
pub record AreTallied (budget : ℕ) (env : Environment) (tally : Tally) (before now : ℕ) : Type 0 where
  pub verdicts : List Verdict
  pub right : AllZip (IsVerdictOn budget env) env.queries verdicts
  pub queries : tally.queries ≡ length env.queries
  pub yes : tally.yes ≡ count_of verdict.Included verdicts
  pub no : tally.no ≡ count_of verdict.NotIncluded verdicts
  pub too_large : tally.too_large ≡ count_of verdict.TooLarge verdicts
  pub asked : List (List costs.Question)
  pub charged : AllZip (IsChargedFor budget env) env.queries asked
  pub made : tally.rows + before ≤ now
  pub steps : now ≤ before + charge (all_of asked)
  pub enough : fewest (all_of asked) ≤ tally.rows
