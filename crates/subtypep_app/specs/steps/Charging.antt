-- What is made and kept for queries on the way, list by list.
use Rattle.std.specs.Prelude.{ℕ, ◌≡◌, ◌≤◌, ◌+◌, List, IsTrue}
use Rattle.std.specs.List.{AllByRecursion, AllZip, flat_map}
use Rattle.ls_spec.specs.Specifier.{Specifier}
use Rattle.ls_lists.specs.Costs.{lists_of}
use Rattle.ls_lists.specs.Costs as costs
use Rattle.ls_lists.specs.Walks.{among, walk_all}
use Rattle.ls_env.specs.declared.query.Query.{Query}
use Rattle.ls_env.specs.Environments.{Environment}
use Rattle.ls_cells.specs.Kept.{Entries, lists, count_rows}
use Rattle.ls_decide.specs.Sessions.{IsPaid}
use Rattle.subtypep_app.specs.Queries.{Question, question_of}
use Rattle.subtypep_app.specs.Charges.{IsChargeOf, IsChargedFor, all_of, needed_lists}

-- each of the lists is among the others
abbrev pub AreAmong : List (List Specifier) → List (List Specifier) → Type 0
AreAmong ls others = AllByRecursion (λ list. IsTrue (among list others)) ls

-- Rows were made for lists that the questions start from, those that an answer needs among them, and paid for by steps.
pub record Spends (asked : List costs.Question) (old new : Entries) (before now : ℕ) : Type 0 where
  pub walked : List (List Specifier)
  pub kept : lists new ≡ walk_all walked (lists old)
  pub no_more : AreAmong walked (flat_map lists_of asked)
  pub no_fewer : AreAmong (flat_map needed_lists asked) walked
  pub paid : IsPaid old new before now
  pub rows : count_rows new + before ≤ count_rows old + now

-- the same of what the queries are charged for
pub record HaveSpent (budget : ℕ) (env : Environment) (queries : List Query) (old new : Entries) (before now : ℕ) : Type 0 where
  pub asked : List (List costs.Question)
  pub charged : AllZip (IsChargedFor budget env) queries asked
  pub spends : Spends (all_of asked) old new before now

-- the same of one question, and of one query
abbrev pub SpendsOn : ℕ → Environment → Question → Entries → Entries → ℕ → ℕ → Type 0
SpendsOn budget env question old new before now =
    (asked : List costs.Question) × IsChargeOf budget env question asked × Spends asked old new before now

abbrev pub HasSpent : ℕ → Environment → Query → Entries → Entries → ℕ → ℕ → Type 0
HasSpent budget env query old new before now = SpendsOn budget env (question_of query) old new before now
