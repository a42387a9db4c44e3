-- The numbers of a tally, and the report with them.
use Rattle.std.proofs.Common.{ℕ, ◌≡◌, ◌≤◌, ◌<◌, ◌+◌, ◌∙◌, ap, subst, arith, Bool, List, [], ◌∷◌, ◌++◌, length, take, get_or}
use Rattle.std.specs.Prelude.{nat_lt}
use Rattle.std.specs.List.{AllZip}
use Rattle.std.proofs.lemmas.List.{take_more, length-map}
use Rattle.std.proofs.lemmas.Slice.Zip.{AllZip-long}
use Rattle.ls_env.specs.declared.query.Query.{Query}
use Rattle.ls_env.specs.Environments.{Environment}
use Rattle.ls_cells.specs.Kept.{Entries, count_rows}
use Rattle.subtypep_app.specs.declared.tally.Verdict.{Verdict}
use Rattle.subtypep_app.specs.declared.tally.Verdict.TheVariants as verdict
use Rattle.subtypep_app.specs.declared.tally.Tally.{Tally}
use Rattle.subtypep_app.specs.Charges.{IsChargedFor, all_of}
use Rattle.subtypep_app.specs.Tallies.{IsVerdictOn, count_of, tally_text, IsTally}
use Rattle.subtypep_app.specs.steps.Charging.{HaveSpent}
use Rattle.subtypep_app.specs.steps.Counting.{AreTallied, text_of_tally}
use Rattle.subtypep_app.proofs.ReportLemmas.{AllZip-push}
use Rattle.subtypep_app.proofs.ChargeLemmas.{steps_charged, needed_kept, rows_made}

-- verdicts on the queries before a place, and one on the query there
pub verdicts_more : (budget : ℕ) (env : Environment) (qs : List Query) (i : ℕ) (q : Query) (verdicts : List Verdict) (v : Verdict)
    → i < length qs → AllZip (IsVerdictOn budget env) (take i qs) verdicts → IsVerdictOn budget env (get_or qs i q) v
    → AllZip (IsVerdictOn budget env) (take (i + 1) qs) (verdicts ++ v ∷ [])
verdicts_more budget env qs i q verdicts v inside right is =
    rw (take_more qs i q inside) (AllZip-push (IsVerdictOn budget env) (take i qs) verdicts (get_or qs i q) v right is)

-- the numbers of verdicts on all queries of a file, and of the rows made for them
pub AreTallied-from_spent : (budget : ℕ) (env : Environment) (qs : List Query) (verdicts : List Verdict) (tally : Tally)
    (old new : Entries) (before now : ℕ) → old ≡ [] → qs ≡ env.queries
    → AllZip (IsVerdictOn budget env) qs verdicts → HaveSpent budget env qs old new before now
    → tally.queries ≡ length verdicts → tally.yes ≡ count_of verdict.Included verdicts
    → tally.no ≡ count_of verdict.NotIncluded verdicts → tally.too_large ≡ count_of verdict.TooLarge verdicts
    → tally.rows ≤ count_rows new → length new ≤ tally.rows → AreTallied budget env tally before now
AreTallied-from_spent budget env qs verdicts tally old new before now none all right s queries included others too_large few some = record {
  verdicts = verdicts;
  right = subst (λ xs. AllZip (IsVerdictOn budget env) xs verdicts) all right;
  queries = queries ∙ AllZip-long (IsVerdictOn budget env) qs verdicts right ∙ ap length all;
  yes = included;
  no = others;
  too_large = too_large;
  asked = s.asked;
  charged = subst (λ xs. AllZip (IsChargedFor budget env) xs s.asked) all s.charged;
  made = omega (arith, few, rows_made (all_of s.asked) old new before now none s.spends);
  steps = steps_charged (all_of s.asked) old new before now none s.spends;
  enough = omega (arith, some, needed_kept (all_of s.asked) old new before now none s.spends, length-map new (λ e. e.0));
}

-- the report with the numbers of a tally
pub IsTally-from_numbers : (budget : ℕ) (env : Environment) (tally : Tally) (found : Bool) (report : List ℕ) (before now : ℕ)
    → AreTallied budget env tally before now → found ≡ nat_lt 0 tally.too_large → report ≡ text_of_tally tally
    → IsTally budget env found report before now
IsTally-from_numbers budget env tally found report before now t found_is text = record {
  verdicts = t.verdicts;
  right = t.right;
  rows = tally.rows;
  text = text ∙ (λ i. tally_text (t.queries i) (t.yes i) (t.no i) (t.too_large i) tally.rows);
  found_is = found_is ∙ ap (nat_lt 0) t.too_large;
  asked = t.asked;
  charged = t.charged;
  made = t.made;
  steps = t.steps;
  enough = t.enough;
}
