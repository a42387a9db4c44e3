-- What the queries of a file are charged together: the lists that they need, each once.
use Rattle.std.specs.Prelude.{ℕ, ◌≡◌, ◌≤◌, ◌+◌, ◌⊎◌, nat_le, if◌then◌else◌, List, [], ◌∷◌, Some, length}
use Rattle.std.specs.List.{AllZip, flat_map}
use Rattle.ls_object.specs.Universe.{LispObject}
use Rattle.ls_spec.specs.Specifier.{Specifier}
use Rattle.ls_lists.specs.Costs.{pair_cost, type_cost, type_lists, charge, of_pair, of_type}
use Rattle.ls_lists.specs.Costs as costs
use Rattle.ls_lists.specs.Walks.{walk_all}
use Rattle.ls_env.specs.declared.query.Query.{Query}
use Rattle.ls_env.specs.Environments.{Environment}
use Rattle.ls_grammar.specs.declared.refusal.Refusal.{Refusal}
use Rattle.ls_grammar.specs.declared.literal.ObjectRefusal.{ObjectRefusal}
use Rattle.ls_grammar.specs.Visiting.{Resolves}
use Rattle.ls_grammar.specs.Literals.{IsLiteral}
use Rattle.ls_decide.specs.Sessions.{decided_lists}
use Rattle.subtypep_app.specs.Queries.{Question, inclusion, membership, refused, question_of, refusal_of_question, object_refusal_of}

-- what costs no more than the budget is charged, and nothing else is
abbrev pub if_within : ℕ → ℕ → costs.Question → List costs.Question
if_within budget cost asked = if nat_le cost budget then asked ∷ [] else []

-- the query is refused, for its object or for one of its types
abbrev pub IsRefused : Environment → Question → Type 0
IsRefused env question =
    ((x : Refusal) × (refusal_of_question env question ≡ Some x))
    ⊎ ((x : ObjectRefusal) × (object_refusal_of question ≡ Some x))

-- a query whose types resolve asks for their comparison, or for the one type, where that is within the budget
abbrev pub Asks : ℕ → Environment → Question → List costs.Question → Type 0
Asks budget env (refused x) asked = ⊥
Asks budget env (inclusion a b) asked =
    (s : Specifier) × (t : Specifier) × Resolves env a s × Resolves env b t
    × (asked ≡ if_within budget (pair_cost s t) (of_pair s t))
Asks budget env (membership d a) asked =
    (o : LispObject) × (s : Specifier) × IsLiteral d o × Resolves env a s
    × (asked ≡ if_within budget (type_cost s) (of_type s))

-- A query is charged for what it asks, and one that is refused for nothing.
abbrev pub IsChargeOf : ℕ → Environment → Question → List costs.Question → Type 0
IsChargeOf budget env question asked = Asks budget env question asked ⊎ (IsRefused env question × (asked ≡ []))

abbrev pub IsChargedFor : ℕ → Environment → Query → List costs.Question → Type 0
IsChargedFor budget env query asked = IsChargeOf budget env (question_of query) asked

-- what the queries ask, one after another
abbrev pub all_of : List (List costs.Question) → List costs.Question
all_of asked = flat_map (λ questions. questions) asked

-- Between two counts of steps no more were made than the queries are charged together, each list once.
pub record AreCharged (budget : ℕ) (env : Environment) (before now : ℕ) : Type 0 where
  pub asked : List (List costs.Question)
  pub are : AllZip (IsChargedFor budget env) env.queries asked
  pub steps : now ≤ before + charge (all_of asked)

-- the lists without which there is no answer, in order
abbrev pub needed_lists : costs.Question → List (List Specifier)
needed_lists (of_pair a b) = decided_lists a b
needed_lists (of_type s) = type_lists s

-- how many lists are reached that some answer needs, each once
unfoldable pub fewest : List costs.Question → ℕ
fewest asked = length (walk_all (flat_map needed_lists asked) [])
