-- What a DEFSTRUCT form says (DEFSTRUCT).
use Rattle.std.specs.Prelude.{◌≡◌, List, [], ◌∷◌, Bool, if◌then◌else◌}
use Rattle.std.specs.Prelude.{Option, Some, None, Result, Ok, Err}
use Rattle.ls_object.specs.declared.symbol.Symbol.{Symbol}
use Rattle.ls_reader.specs.declared.datum.Datum.{Datum}
use Rattle.ls_reader.specs.declared.datum.Form.{Form, out-Form}
use Rattle.ls_reader.specs.declared.datum.Form.TheOpen.{Form-F}
use Rattle.ls_structs.specs.declared.fault.StructFault.{StructFault}
use Rattle.ls_structs.specs.declared.fault.StructFault.TheVariants.{NoName, BadOption, Memory}
use Rattle.ls_structs.specs.declared.form.StructForm.{StructForm}
use Rattle.ls_structs.specs.Options.{symbol_of, are_options, are_typed, names_included, at_most_one}

-- a name with options behind it, where it is a symbol
abbrev pub name_with : Option Symbol → List Datum → Option (Symbol × List Datum)
name_with None options = None
name_with (Some name) options = Some (name, options)

-- `name`, or `(name option ..)`
abbrev pub named_form : Form-F Form Datum → Option (Symbol × List Datum)
named_form (Form-F.Symbol name) = Some (name, [])
named_form (Form-F.List (name ∷ options)) = name_with (symbol_of name) options
named_form _ = None

-- the name and the options of `(defstruct name slot ..)` or `(defstruct (name option ..) slot ..)`
abbrev pub named_list : Form-F Form Datum → Option (Symbol × List Datum)
named_list (Form-F.List (operator ∷ name ∷ slots)) = named_form (out-Form name.form)
named_list _ = None

abbrev pub named : Datum → Option (Symbol × List Datum)
named d = named_list (out-Form d.form)

-- the name that the options include, or none; None where an option is out of form, or there is a second inclusion
abbrev pub inclusion : List Datum → Option (Option Symbol)
inclusion options = if are_options options then at_most_one (names_included options) else None

abbrev pub with_inclusion : Datum → Symbol → Bool → Option (Option Symbol) → Result StructForm StructFault
with_inclusion d name typed None = Err BadOption
with_inclusion d name typed (Some include) =
    Ok (record { name = name; include = include; typed = typed; rest = d })

abbrev pub with_name : Datum → Option (Symbol × List Datum) → Result StructForm StructFault
with_name d None = Err NoName
with_name d (Some (name, options)) = with_inclusion d name (are_typed options) (inclusion options)

-- what a form defines, or why it defines nothing
abbrev pub definition : Datum → Result StructForm StructFault
definition d = with_name d (named d)

-- the fault is the one of these, unless memory ran out
abbrev pub IsFaultOf : Result StructForm StructFault → StructFault → Type 0
IsFaultOf says Memory = Unit {0}
IsFaultOf says NoName = says ≡ Err NoName
IsFaultOf says BadOption = says ≡ Err BadOption
