-- What an Env says is what the forms of its file say.
use Rattle.std.proofs.Common.{◌≡◌, ℕ, List, [], Bool, Option, length, map, sym, ap, ◌∙◌, subst}
use Rattle.ls_object.specs.declared.symbol.Symbol.{Symbol}
use Rattle.ls_reader.specs.declared.datum.Datum.{Datum}
use Rattle.ls_deftype.specs.declared.template.Template.{Template}
use Rattle.ls_deftype.specs.Templates as deftype
use Rattle.ls_env.specs.declared.query.Query.{Query}
use Rattle.ls_env.specs.declared.status.NameStatus.{NameStatus}
use Rattle.ls_env.specs.declared.table.Table.{Table}
use Rattle.ls_env.specs.TopLevel.{top_in, queries_of}
use Rattle.ls_env.specs.Definitions.{Definition, definitions, of_name}
use Rattle.ls_env.specs.Environments.{Environment, environment_of, environment}
use Rattle.ls_env.specs.Statuses.{Standing, names_in, templates_in, numbered, graph_of, finished, statuses_in}
use Rattle.ls_env.specs.steps.Gathered.{sole, standing_of, IsTableOf, IsEnvOf}
use Rattle.ls_env.specs.steps.Marking.{all_that_come_back, AreNumbered}
use Rattle.ls_structs.specs.Trees.{Definitions}
use Rattle.ls_env.specs.StructureTypes.{tree_in}
use Rattle.ls_env.specs.steps.Joining.{joined}
use Rattle.ls_env.proofs.StructureLemmas.{tree_is}
use Rattle.ls_env.proofs.CensusLemmas.{standings_are}
use Rattle.ls_env.proofs.NumberLemmas.{numbered_graph}

-- the graph, by what the code lends of a table
pub graph_is : (names : List Symbol) (t : Table) (seen graph : List (List ℕ)) (ss : List NameStatus)
    (ts : List Template) → seen ≡ graph
    → graph ≡ graph_of names ss (map deftype.definition_of ts) → ss ≡ t.statuses → ts ≡ t.templates
    → seen ≡ graph_of names t.statuses (map deftype.definition_of t.templates)
graph_is names t seen graph ss ts lent is e f =
    lent
    ∙ is
    ∙ ap (λ (xs : List NameStatus). graph_of names xs (map deftype.definition_of ts)) e
    ∙ ap (λ (xs : List Template). graph_of names t.statuses (map deftype.definition_of xs)) f

-- what the code finishes by the marks of the graph
pub finished_by : (names : List Symbol) (t : Table) (graph : List (List ℕ)) (marks seen : List Bool)
    (lent statuses : List NameStatus)
    → graph ≡ graph_of names t.statuses (map deftype.definition_of t.templates)
    → AreNumbered (length t.templates) t.statuses
    → seen ≡ marks → marks ≡ all_that_come_back graph → lent ≡ t.statuses
    → ((g : List (List ℕ)) → seen ≡ all_that_come_back g → AreNumbered (length g) lent
    → statuses ≡ map (finished g) lent)
    → statuses ≡ map (finished graph) t.statuses
finished_by names t graph marks seen lent statuses is numbered e marked f made =
    made graph (e ∙ marked)
    (subst (AreNumbered (length graph)) (sym f) (numbered_graph names t.statuses t.templates graph is numbered))
    ∙ ap (map (finished graph)) f

-- the statuses, once each template that leads back to itself is found
pub statuses_are : (names : List Symbol) (t : Table) (graph : List (List ℕ)) (statuses : List NameStatus)
    → graph ≡ graph_of names t.statuses (map deftype.definition_of t.templates)
    → statuses ≡ map (finished graph) t.statuses
    → (ss : List Standing) → IsTableOf ss t → statuses ≡ statuses_in names ss
statuses_are names t graph statuses is made ss h =
    made
    ∙ ap (λ (g : List (List ℕ)). map (finished g) t.statuses) is
    ∙ ap (λ (ts : List deftype.Definition). map (finished (graph_of names t.statuses ts)) t.statuses) h.templates
    ∙ ap (λ (xs : List NameStatus). map (finished (graph_of names xs (templates_in ss))) xs) h.statuses

-- an environment without structure types
abbrev env_with : List Query → Definitions → List Symbol → List NameStatus → List deftype.Definition → Environment
env_with queries tree names statuses templates =
    record { queries = queries; tree = tree; names = names; statuses = statuses; templates = templates }

-- an environment by what is said of its names
abbrev env_of : List Query → Definitions → List Symbol → List Standing → Environment
env_of queries tree names ss = env_with queries tree names (statuses_in names ss) (templates_in ss)

-- what is put together from the forms of a file
pub file_env : (forms top : List Datum) (queries : List Query) (ds : List Definition) (tree : Definitions)
    (names : List Symbol) (os : List (Option Definition))
    (env : Environment) → top ≡ top_in forms → queries ≡ queries_of top → ds ≡ definitions top → names ≡ names_in ds
    → os ≡ map (λ s. sole (of_name s ds)) (names_in ds) → tree ≡ joined [] os
    → IsEnvOf queries tree names (map standing_of os) env → env ≡ environment forms
file_env forms top queries ds tree names os env tops asked defined named found gathered made =
    made
    ∙ ap (λ (qs : List Query). env_of qs tree names (map standing_of os)) asked
    ∙ ap (λ (t : Definitions). env_of (queries_of top) t names (map standing_of os))
    (gathered ∙ ap (joined []) found ∙ tree_is ds)
    ∙ ap (λ (ns : List Symbol). env_of (queries_of top) (tree_in ds) ns (map standing_of os)) named
    ∙ ap (λ (ss : List Standing). env_of (queries_of top) (tree_in ds) (names_in ds) ss)
    (ap (map standing_of) found ∙ standings_are ds)
    ∙ ap (environment_of (queries_of top)) defined
    ∙ ap (λ (fs : List Datum). environment_of (queries_of fs) (definitions fs)) tops
