-- The options of a structure definition (DEFSTRUCT).
use Rattle.std.specs.Prelude.{ℕ, List, [], ◌∷◌, codes, Bool, true, false, ◌||◌, if◌then◌else◌}
use Rattle.std.specs.Prelude.{Option, Some, None, is_some, filter_map}
use Rattle.std.specs.List.{list_all, list_any}
use Rattle.ls_object.specs.declared.symbol.Symbol.{Symbol}
use Rattle.ls_object.specs.ObjectText.{is_text}
use Rattle.ls_reader.specs.declared.datum.Datum.{Datum}
use Rattle.ls_reader.specs.declared.datum.Form.{Form, out-Form}
use Rattle.ls_reader.specs.declared.datum.Form.TheOpen.{Form-F}
use Rattle.ls_structs.specs.declared.option.OptionKind.{OptionKind}
use Rattle.ls_structs.specs.declared.option.OptionKind.TheVariants.{Include, Representation, Other}

-- the names of the options that say nothing of types
abbrev pub is_other_option : List ℕ → Bool
is_other_option name =
    is_text name (codes "CONC-NAME") || (is_text name (codes "CONSTRUCTOR") || (is_text name (codes "COPIER")
    || (is_text name (codes "PREDICATE") || (is_text name (codes "NAMED") || (is_text name (codes "PRINT-FUNCTION")
    || (is_text name (codes "PRINT-OBJECT") || is_text name (codes "INITIAL-OFFSET")))))))

abbrev pub option_named : List ℕ → Option OptionKind
option_named name =
    if is_text name (codes "INCLUDE") then Some Include
    else (if is_text name (codes "TYPE") then Some Representation
    else (if is_other_option name then Some Other
    else None))

abbrev pub option_of_form : Form-F Form Datum → Option OptionKind
option_of_form (Form-F.Symbol s) = if is_text s.package (codes "KEYWORD") then option_named s.name else None
option_of_form _ = None

-- the option of which a datum is the keyword
abbrev pub option_of_keyword : Datum → Option OptionKind
option_of_keyword d = option_of_form (out-Form d.form)

abbrev pub kind_of_form : Datum → Form-F Form Datum → Option OptionKind
kind_of_form d (Form-F.List (keyword ∷ args)) = option_of_keyword keyword
kind_of_form d (Form-F.List []) = None
kind_of_form d _ = option_of_keyword d

-- the option that a datum is: a keyword, or a list that begins with one
abbrev pub kind_of : Datum → Option OptionKind
kind_of d = kind_of_form d (out-Form d.form)

abbrev pub symbol_of_form : Form-F Form Datum → Option Symbol
symbol_of_form (Form-F.Symbol s) = Some s
symbol_of_form _ = None

-- the symbol that a datum is
abbrev pub symbol_of : Datum → Option Symbol
symbol_of d = symbol_of_form (out-Form d.form)

abbrev pub argument_of_form : Form-F Form Datum → Option Symbol
argument_of_form (Form-F.List (keyword ∷ argument ∷ more)) = symbol_of argument
argument_of_form _ = None

-- the symbol that follows the keyword of an option
abbrev pub argument_of : Datum → Option Symbol
argument_of d = argument_of_form (out-Form d.form)

abbrev pub included_by_kind : Datum → Option OptionKind → Option Symbol
included_by_kind d (Some Include) = argument_of d
included_by_kind d _ = None

-- the name that an option includes, if it is an inclusion
abbrev pub included_by : Datum → Option Symbol
included_by d = included_by_kind d (kind_of d)

abbrev pub is_option_of_kind : Datum → Option OptionKind → Bool
is_option_of_kind d None = false
is_option_of_kind d (Some Include) = is_some (argument_of d)
is_option_of_kind d (Some Representation) = true
is_option_of_kind d (Some Other) = true

-- whether a datum is an option: an inclusion names what is included
abbrev pub is_option : Datum → Bool
is_option d = is_option_of_kind d (kind_of d)

abbrev pub is_type_kind : Option OptionKind → Bool
is_type_kind (Some Representation) = true
is_type_kind _ = false

abbrev pub is_type_option : Datum → Bool
is_type_option d = is_type_kind (kind_of d)

abbrev pub are_options : List Datum → Bool
are_options options = list_all is_option options

-- whether structures of the name are vectors or lists, and the name no type
abbrev pub are_typed : List Datum → Bool
are_typed options = list_any is_type_option options

-- the names that the options include
abbrev pub names_included : List Datum → List Symbol
names_included options = filter_map included_by options

-- no name or one, where there are no more
abbrev pub at_most_one : List Symbol → Option (Option Symbol)
at_most_one [] = Some None
at_most_one (name ∷ []) = Some (Some name)
at_most_one (first ∷ second ∷ more) = None
