-- What is appended for one query, and the status of a report.
use Rattle.std.specs.Prelude.{◌≡◌, ℕ, Bool, List, ◌++◌, if◌then◌else◌}
use Rattle.ls_env.specs.declared.query.Query.{Query}
use Rattle.ls_env.specs.Environments.{Environment}
use Rattle.subtypep_app.specs.declared.line.Line.{Line}
use Rattle.subtypep_app.specs.declared.status.Status.{Status}
use Rattle.subtypep_app.specs.declared.status.Status.TheVariants.{Clean, Found}
use Rattle.subtypep_app.specs.Report.{IsLineOf, line_text, is_finding}

-- a right line was appended for the query
pub record LineAppended (budget : ℕ) (env : Environment) (query : Query) (old new : List ℕ) (found : Bool) : Type 0 where
  pub line : Line
  pub right : IsLineOf budget env query line
  pub text : new ≡ old ++ line_text query line
  pub found_is : found ≡ is_finding line

-- the status of a report with a finding, or without one
abbrev pub status_for : Bool → Status
status_for found = if found then Found else Clean
