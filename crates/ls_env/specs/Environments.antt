-- What the forms of a file say together.
use Rattle.std.specs.Prelude.{List}
use Rattle.ls_object.specs.declared.symbol.Symbol.{Symbol}
use Rattle.ls_object.specs.Universe.{Structures}
use Rattle.ls_reader.specs.declared.datum.Datum.{Datum}
use Rattle.ls_structs.specs.Trees.{Definitions, types}
use Rattle.ls_deftype.specs.Templates as deftype
use Rattle.ls_env.specs.declared.query.Query.{Query}
use Rattle.ls_env.specs.declared.status.NameStatus.{NameStatus}
use Rattle.ls_env.specs.TopLevel.{top_in, queries_of}
use Rattle.ls_env.specs.Definitions.{definitions}
use Rattle.ls_env.specs.Definitions as definition
use Rattle.ls_env.specs.Statuses.{names_in, standings, templates_in, statuses_in}
use Rattle.ls_env.specs.StructureTypes.{tree_in}

pub record Environment : Type 0 where
  -- the queries, in order
  pub queries : List Query
  -- the names that structure definitions define, in order, each with what it is
  pub tree : Definitions
  -- the names that are defined, and beside them what is said of each
  pub names : List Symbol
  pub statuses : List NameStatus
  -- the templates, by their numbers
  pub templates : List deftype.Definition

-- by the queries, the definitions, the defined names, and what the definitions say of them
abbrev pub environment_of : List Query → List definition.Definition → Environment
environment_of queries ds =
    record {
      queries = queries;
      tree = tree_in ds;
      names = names_in ds;
      statuses = statuses_in (names_in ds) (standings ds (names_in ds));
      templates = templates_in (standings ds (names_in ds));
    }

abbrev pub environment : List Datum → Environment
environment forms = environment_of (queries_of (top_in forms)) (definitions (top_in forms))

-- the structure types, an included one before those that include it
abbrev pub structures_of : Environment → Structures
structures_of env = types env.tree
