-- What the forms of a file say of names that are not built in.
use Rattle.std.specs.Prelude.{ℕ, ◌+◌, List, [], ◌∷◌, ◌++◌, map, Option, Some, None, Result, Ok, Err, if◌then◌else◌, slice_get, filter_map, position, fold}
use Rattle.std.specs.List.{list_any}
use Rattle.ls_object.specs.declared.symbol.Symbol.{Symbol}
use Rattle.ls_object.specs.Symbols.{same_symbol}
use Rattle.ls_reader.specs.declared.datum.Datum.{Datum}
use Rattle.ls_deftype.specs.declared.fault.TemplateFault.{TemplateFault}
use Rattle.ls_deftype.specs.declared.fault.TemplateFault.TheVariants as fault
use Rattle.ls_deftype.specs.Templates.{template_of}
use Rattle.ls_deftype.specs.Templates as deftype
use Rattle.ls_env.specs.declared.definition.DefiningKind.{DefiningKind}
use Rattle.ls_env.specs.declared.definition.DefiningKind.TheVariants as defining
use Rattle.ls_env.specs.declared.status.NameStatus.{NameStatus}
use Rattle.ls_env.specs.declared.status.NameStatus.TheVariants as status
use Rattle.ls_env.specs.Definitions.{Definition, of_name}
use Rattle.ls_env.specs.Mentions.{mentions}
use Rattle.ls_env.specs.Reaching.{comes_back}

-- ---- the defined names

abbrev pub add_name : List Symbol → Definition → List Symbol
add_name names d = if list_any (same_symbol d.name) names then names else names ++ d.name ∷ []

-- the names that are defined, each once, in the order of their first definitions
abbrev pub names_in : List Definition → List Symbol
names_in ds = fold add_name [] ds

-- ---- what is said of one name, by itself

pub data Standing : Type 0 where
  -- a template, of its one DEFTYPE
  template : deftype.Definition → Standing
  -- anything else
  settled : NameStatus → Standing

abbrev pub by_template : Result deftype.Definition TemplateFault → Standing
by_template (Ok t) = template t
by_template (Err fault.CodeBody) = settled status.CodeBody
by_template (Err fault.BadLambdaList) = settled status.BadDefinition
by_template (Err fault.Memory) = settled status.Unknown

abbrev pub by_definition : Definition → DefiningKind → Standing
by_definition d defining.Type = by_template (template_of d.form)
by_definition d defining.Structure = settled status.Structure
by_definition d defining.Class = settled status.Class

-- by the definitions of the name: none, one, or more
abbrev pub standing : List Definition → Standing
standing [] = settled status.Unknown
standing (d ∷ []) = by_definition d d.kind
standing (d ∷ e ∷ ds) = settled status.Twice

-- what is said of each of the names
abbrev pub standings : List Definition → List Symbol → List Standing
standings ds names = map (λ s. standing (of_name s ds)) names

-- ---- templates and their numbers

abbrev pub template_in : Standing → Option deftype.Definition
template_in (template t) = Some t
template_in (settled s) = None

-- the templates, in the order of their names; the number of a template is its place among them
abbrev pub templates_in : List Standing → List deftype.Definition
templates_in ss = filter_map template_in ss

-- the status of each name as long as nothing is asked of what the bodies mention; the next template has the number n
abbrev pub numbered : ℕ → List Standing → List NameStatus
numbered n [] = []
numbered n (template t ∷ ss) = status.Deftype n ∷ numbered (n + 1) ss
numbered n (settled s ∷ ss) = s ∷ numbered n ss

-- ---- the status of a name

abbrev pub or_unknown : Option NameStatus → NameStatus
or_unknown None = status.Unknown
or_unknown (Some s) = s

abbrev pub status_at : List NameStatus → Option ℕ → NameStatus
status_at statuses None = status.Unknown
status_at statuses (Some at) = or_unknown (slice_get statuses at)

-- the status of a name by a table of names and their statuses
abbrev pub looked_up : List Symbol → List NameStatus → Symbol → NameStatus
looked_up names statuses s = status_at statuses (position (same_symbol s) names)

-- ---- templates that lead back to themselves

abbrev pub number_in : NameStatus → Option ℕ
number_in (status.Deftype n) = Some n
number_in _ = None

-- the numbers of the templates that a body mentions
abbrev pub mentioned : List Symbol → List NameStatus → Datum → List ℕ
mentioned names statuses d = filter_map (λ s. number_in (looked_up names statuses s)) (mentions d)

-- for each template, the numbers of those that its body mentions
abbrev pub graph_of : List Symbol → List NameStatus → List deftype.Definition → List (List ℕ)
graph_of names statuses ts = map (λ t. mentioned names statuses t.body) ts

-- a template that reaches itself is none that can be used
abbrev pub finished : List (List ℕ) → NameStatus → NameStatus
finished graph (status.Deftype n) = if comes_back graph n then status.Recursive else status.Deftype n
finished graph s = s

abbrev pub statuses_in : List Symbol → List Standing → List NameStatus
statuses_in names ss = map (finished (graph_of names (numbered 0 ss) (templates_in ss))) (numbered 0 ss)
