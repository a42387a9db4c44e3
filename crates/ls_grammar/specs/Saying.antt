-- What a datum says as a specifier (4.2.3), one level deep: which specifier it is or how those of its parts are joined,
-- or the first thing that is wrong with it. Neither its depth nor the room is looked at here.
use Rattle.std.specs.Prelude.{ℕ, ◌+◌, List, [], ◌∷◌, length, Option, Some, None, if◌then◌else◌, slice_get}
use Rattle.ls_object.specs.declared.symbol.Symbol.{Symbol}
use Rattle.ls_reader.specs.declared.datum.Span.{Span}
use Rattle.ls_reader.specs.declared.datum.Datum.{Datum}
use Rattle.ls_reader.specs.declared.datum.Form.{Form, out-Form}
use Rattle.ls_reader.specs.declared.datum.Form.TheOpen.{Form-F}
use Rattle.ls_reader.specs.Sizes.{size}
use Rattle.ls_tables.specs.declared.name.Builtin.{Builtin}
use Rattle.ls_tables.specs.Builtins.{builtin_of}
use Rattle.ls_spec.specs.Specifier.{structure_under}
use Rattle.ls_deftype.specs.Templates.{Definition}
use Rattle.ls_deftype.specs.Arguments.{takes}
use Rattle.ls_deftype.specs.Substitution.{substituted}
use Rattle.ls_env.specs.declared.status.NameStatus.{NameStatus}
use Rattle.ls_env.specs.declared.status.NameStatus.TheVariants as status
use Rattle.ls_env.specs.Environments.{Environment}
use Rattle.ls_env.specs.Naming.{quote_symbol, status_of}
use Rattle.ls_grammar.specs.declared.refusal.RefusalKind.TheVariants as kind
use Rattle.ls_grammar.specs.Numbers.{refusal}
use Rattle.ls_grammar.specs.Levels.{Level, refused, known, object, members, all_of, some_of, none_of, pair_of, array_over, expanded, bad_argument}
use Rattle.ls_grammar.specs.BuiltinLevels.{built_atom, built_list}

-- ---- names that are not built in

-- a use of a DEFTYPE at a place, with these arguments: the template with them put in, as written data
abbrev pub use_of : Definition → Span → List Datum → Level
use_of t at args =
    if takes t (length args) then expanded (substituted t at args) else refused (refusal kind.ArgumentCount at)

-- by the number of a template, which each status has one for
abbrev pub use_by : Option Definition → Span → List Datum → Level
use_by None at args = bad_argument at
use_by (Some t) at args = use_of t at args

-- by what the file says of the name; a structure type takes no arguments, and one of another representation is no type
abbrev pub level_by : Environment → NameStatus → Span → List Datum → Level
level_by env status.Unknown at args = refused (refusal kind.UnknownType at)
level_by env (status.Deftype n) at args = use_by (slice_get env.templates n) at args
level_by env status.Structure at args = bad_argument at
level_by env status.Typed at args = refused (refusal kind.UnknownType at)
level_by env status.Class at args = refused (refusal kind.ClassType at)
level_by env status.Twice at args = refused (refusal kind.NameTwice at)
level_by env status.CodeBody at args = refused (refusal kind.CodeBody at)
level_by env status.BadDefinition at args = refused (refusal kind.BadDefinition at)
level_by env status.Recursive at args = refused (refusal kind.RecursiveType at)

-- the same of an atom: a structure type is one by itself
abbrev pub atom_by : Environment → Symbol → NameStatus → Span → Level
atom_by env symbol status.Structure at = known (structure_under symbol)
atom_by env symbol s at = level_by env s at []

-- a name that is not built in, with these arguments
abbrev pub own_level : Environment → Span → Symbol → List Datum → Level
own_level env at symbol args = level_by env (status_of env symbol) at args

-- ---- data

abbrev pub atom_level : Environment → Span → Symbol → Option Builtin → Level
atom_level env at symbol None = atom_by env symbol (status_of env symbol) at
atom_level env at symbol (Some b) = built_atom at b

abbrev pub list_level : Environment → Span → Symbol → List Datum → Option Builtin → Level
list_level env at symbol args None = own_level env at symbol args
list_level env at symbol args (Some b) = built_list at args b

abbrev pub head_level : Environment → Span → List Datum → Form-F Form Datum → Level
head_level env at args (Form-F.Symbol s) = list_level env at s args (builtin_of s)
head_level env at args _ = bad_argument at

abbrev pub items_level : Environment → Span → List Datum → Level
items_level env at [] = bad_argument at
items_level env at (head ∷ args) = head_level env at args (out-Form head.form)

-- `'x` is the list (QUOTE x), and QUOTE is not built in
abbrev pub form_level : Environment → Span → Form-F Form Datum → Level
form_level env at (Form-F.Symbol s) = atom_level env at s (builtin_of s)
form_level env at (Form-F.List items) = items_level env at items
form_level env at (Form-F.Quote d) = own_level env at quote_symbol (d ∷ [])
form_level env at _ = bad_argument at

abbrev pub level : Environment → Datum → Level
level env d = form_level env d.span (out-Form d.form)

-- ---- room

-- the room that a level takes by itself; a use takes that of its expansion too
abbrev pub weight_of : Level → ℕ
weight_of (refused x) = 1
weight_of (known s) = 1
weight_of (object d) = 1
weight_of (members ds) = 1
weight_of (all_of ds) = 1
weight_of (some_of ds) = 1
weight_of (none_of d) = 1
weight_of (pair_of car cdr) = 1
weight_of (array_over d simple dims) = 1
weight_of (expanded d) = size d + 1
