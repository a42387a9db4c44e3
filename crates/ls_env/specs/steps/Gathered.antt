-- What definitions of the code stand for.
use Rattle.std.specs.Prelude.{◌≡◌, List, [], ◌∷◌, map, Option, Some, None}
use Rattle.ls_object.specs.declared.symbol.Symbol.{Symbol}
use Rattle.ls_reader.specs.declared.datum.Datum.{Datum}
use Rattle.ls_reader.specs.declared.datum.Form.{Form, out-Form}
use Rattle.ls_reader.specs.declared.datum.Form.TheOpen.{Form-F}
use Rattle.ls_structs.specs.Trees.{Definitions}
use Rattle.ls_deftype.specs.Templates.{definition_of}
use Rattle.ls_env.specs.declared.query.Query.{Query}
use Rattle.ls_env.specs.Environments.{Environment}
use Rattle.ls_env.specs.declared.definition.Defining as lent
use Rattle.ls_env.specs.declared.census.Defined.{Defined}
use Rattle.ls_env.specs.declared.census.Defined.TheVariants as found
use Rattle.ls_env.specs.declared.census.Census.{Census}
use Rattle.ls_env.specs.declared.table.Table.{Table}
use Rattle.ls_env.specs.declared.status.NameStatus.TheVariants as status
use Rattle.ls_env.specs.TopLevel.{entered, operator_of_list, top_in}
use Rattle.ls_env.specs.Definitions.{Definition, of_name}
use Rattle.ls_env.specs.Statuses.{Standing, settled, names_in, by_definition, numbered, templates_in, statuses_in}

abbrev pub lent_definition : lent.Defining → Definition
lent_definition d = record { kind = d.kind; name = d.name.now; form = d.form.now }

abbrev pub definition_lent : Option lent.Defining → Option Definition
definition_lent None = None
definition_lent (Some d) = Some (lent_definition d)

-- the one definition of a name, where there is one alone
abbrev pub shown : Defined → Option Definition
shown (found.Once d) = Some (lent_definition d)
shown found.Twice = None

-- the one definition among those of a name
abbrev pub sole : List Definition → Option Definition
sole (d ∷ []) = Some d
sole _ = None

-- the names of the definitions, each once, and beside each what defines it
pub record IsCensus (ds : List Definition) (c : Census) : Type 0 where
  pub names : c.names.keys ≡ names_in ds
  pub defined : map shown c.defined ≡ map (λ s. sole (of_name s ds)) (names_in ds)

-- what is said of a name that has a definition
abbrev pub standing_of : Option Definition → Standing
standing_of (Some d) = by_definition d d.kind
standing_of None = settled status.Twice

-- the templates of what is said of names, and the statuses so far
pub record IsTableOf (ss : List Standing) (t : Table) : Type 0 where
  pub statuses : t.statuses ≡ numbered 0 ss
  pub templates : map definition_of t.templates ≡ templates_in ss

-- what an Env says, by the queries, the names and what is said of them
abbrev pub IsEnvOf : List Query → Definitions → List Symbol → List Standing → Environment → Type 0
IsEnvOf queries tree names ss env =
    env
    ≡ record {
      queries = queries;
      tree = tree;
      names = names;
      statuses = statuses_in names ss;
      templates = templates_in ss;
    }

-- ---- top-level forms

abbrev pub inside_of : Form-F Form Datum → List Datum
inside_of (Form-F.List items) = top_in (entered (operator_of_list items) items)
inside_of _ = []

-- a form in a top-level place, and the top-level forms inside it
abbrev pub tops : Datum → List Datum
tops d = d ∷ inside_of (out-Form d.form)
