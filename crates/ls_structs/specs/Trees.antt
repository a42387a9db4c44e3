-- What the structure definitions of a file make of their names, one after another (DEFSTRUCT).
use Rattle.std.specs.Prelude.{◌≡◌, List, [], ◌∷◌, ◌++◌, Option, Some, None, is_some, if◌then◌else◌, fold}
use Rattle.std.specs.List.{flat_map}
use Rattle.std.specs.Map.{lookup}
use Rattle.ls_object.specs.declared.symbol.Symbol.{Symbol}
use Rattle.ls_object.specs.Symbols.{same_symbol}
use Rattle.ls_object.specs.Universe.{Structures}
use Rattle.ls_tables.specs.Builtins.{builtin_of}
use Rattle.ls_structs.specs.declared.fault.TreeFault.{TreeFault}
use Rattle.ls_structs.specs.declared.fault.TreeFault.TheVariants.{Reserved, Twice, UnknownInclude}
use Rattle.ls_structs.specs.declared.fault.TreeFault.TheVariants.{IncludeOfTyped, Memory}
use Rattle.ls_structs.specs.declared.form.StructForm.{StructForm}
use Rattle.ls_structs.specs.declared.tree.Defined.{Defined}
use Rattle.ls_structs.specs.declared.tree.Defined.TheVariants.{Typed, Structure}

-- the names that are defined, in the order of their definitions, each with what it is
abbrev pub Definitions : Type 0
Definitions = List (Symbol × Defined)

-- what the name is, if it is defined
abbrev pub look_up : Symbol → Definitions → Option Defined
look_up name defined = lookup (same_symbol name) defined

abbrev pub type_of : Symbol × Defined → Structures
type_of (name, Structure include) = (name, include) ∷ []
type_of (name, Typed) = []

-- the structure types, each with the one that it includes, if it does
abbrev pub types : Definitions → Structures
types defined = flat_map type_of defined

abbrev pub include_of : Option Defined → Option Symbol
include_of (Some (Structure include)) = include
include_of (Some Typed) = None
include_of None = None

-- the structure type that the one of this name includes, if it is one and includes another
abbrev pub parent : Symbol → Definitions → Option Symbol
parent name defined = include_of (look_up name defined)

-- why a name of which this is said is not included
abbrev pub why_not_included : Option Defined → Option TreeFault
why_not_included (Some (Structure include)) = None
why_not_included (Some Typed) = Some IncludeOfTyped
why_not_included None = Some UnknownInclude

abbrev pub include_fault : Definitions → Option Symbol → Option TreeFault
include_fault defined None = None
include_fault defined (Some name) = why_not_included (look_up name defined)

-- why a definition is refused behind others; what a typed one includes does not matter, since no type is made
abbrev pub fault : Definitions → StructForm → Option TreeFault
fault defined form =
    if is_some (builtin_of form.name) then Some Reserved
    else (if is_some (look_up form.name defined) then Some Twice
    else (if form.typed then None
    else include_fault defined form.include))

-- what a definition makes of its name
abbrev pub made_by : StructForm → Defined
made_by form = if form.typed then Typed else Structure form.include

-- the definitions with one more
abbrev pub with_form : Definitions → StructForm → Definitions
with_form defined form = defined ++ (form.name, made_by form) ∷ []

abbrev pub unless_refused : Definitions → StructForm → Option TreeFault → Definitions
unless_refused defined form None = with_form defined form
unless_refused defined form (Some why) = defined

-- what definitions make, one after another, where those that are refused make nothing
abbrev pub defined_by : List StructForm → Definitions
defined_by forms = fold (λ defined form. unless_refused defined form (fault defined form)) [] forms

-- the fault is the one of these, unless memory ran out
abbrev pub IsFaultOf : Option TreeFault → TreeFault → Type 0
IsFaultOf why Memory = Unit {0}
IsFaultOf why e = why ≡ Some e
