-- The forms that define names of types (DEFTYPE, DEFSTRUCT, DEFCLASS, DEFINE-CONDITION).
use Rattle.std.specs.Prelude.{List, [], ◌∷◌, Option, Some, None, filter, filter_map}
use Rattle.ls_object.specs.declared.symbol.Symbol.{Symbol}
use Rattle.ls_object.specs.Symbols.{same_symbol}
use Rattle.ls_reader.specs.declared.datum.Datum.{Datum}
use Rattle.ls_reader.specs.declared.datum.Form.{Form, out-Form}
use Rattle.ls_reader.specs.declared.datum.Form.TheOpen.{Form-F}
use Rattle.ls_tables.specs.declared.name.Builtin.{Builtin}
use Rattle.ls_tables.specs.Builtins.{builtin_of}
use Rattle.ls_env.specs.declared.operator.Operator.{Operator}
use Rattle.ls_env.specs.declared.operator.Operator.TheVariants as operator
use Rattle.ls_env.specs.declared.definition.DefiningKind.{DefiningKind}
use Rattle.ls_env.specs.declared.definition.DefiningKind.TheVariants as defining
use Rattle.ls_env.specs.TopLevel.{operator_of_list}

-- a form that defines a name
pub record Definition : Type 0 where
  pub kind : DefiningKind
  pub name : Symbol
  pub form : Datum

abbrev pub symbol_in : Form-F Form Datum → Option Symbol
symbol_in (Form-F.Symbol s) = Some s
symbol_in _ = None

-- the symbol that a datum is, if it is one
abbrev pub symbol_of : Datum → Option Symbol
symbol_of d = symbol_in (out-Form d.form)

abbrev pub first_symbol : List Datum → Option Symbol
first_symbol [] = None
first_symbol (d ∷ ds) = symbol_of d

abbrev pub structure_name_in : Form-F Form Datum → Option Symbol
structure_name_in (Form-F.Symbol s) = Some s
structure_name_in (Form-F.List items) = first_symbol items
structure_name_in _ = None

-- the name of a DEFSTRUCT by its second datum: a symbol, or a list with one in front
abbrev pub structure_name : Datum → Option Symbol
structure_name d = structure_name_in (out-Form d.form)

abbrev pub unless_built_in : DefiningKind → Symbol → Datum → Option Builtin → Option Definition
unless_built_in k s d None = Some (record { kind = k; name = s; form = d })
unless_built_in k s d (Some b) = None

-- a definition of a built-in name is passed over, and so is one whose name is no symbol
abbrev pub of_own_name : DefiningKind → Option Symbol → Datum → Option Definition
of_own_name k None d = None
of_own_name k (Some s) d = unless_built_in k s d (builtin_of s)

abbrev pub definition_by : Operator → Datum → Datum → Option Definition
definition_by operator.Deftype name d = of_own_name defining.Type (symbol_of name) d
definition_by operator.Defclass name d = of_own_name defining.Class (symbol_of name) d
definition_by operator.Defstruct name d = of_own_name defining.Structure (structure_name name) d
definition_by _ name d = None

abbrev pub definition_items : Datum → List Datum → Option Definition
definition_items d (head ∷ name ∷ ds) = definition_by (operator_of_list (head ∷ name ∷ ds)) name d
definition_items d _ = None

abbrev pub definition_in : Datum → Form-F Form Datum → Option Definition
definition_in d (Form-F.List items) = definition_items d items
definition_in d _ = None

-- the definition that a form is, if it defines a name that is not built in
abbrev pub definition_of : Datum → Option Definition
definition_of d = definition_in d (out-Form d.form)

-- the definitions among forms, in order
abbrev pub definitions : List Datum → List Definition
definitions forms = filter_map definition_of forms

-- the definitions of one name
abbrev pub of_name : Symbol → List Definition → List Definition
of_name s ds = filter (λ d. same_symbol s d.name) ds
