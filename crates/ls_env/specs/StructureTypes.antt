-- The structure types that the forms of a file define (DEFSTRUCT).
use Rattle.std.specs.Prelude.{List, [], ◌∷◌, Option, Some, None, Result, Ok, Err, filter_map}
use Rattle.ls_object.specs.declared.symbol.Symbol.{Symbol}
use Rattle.ls_structs.specs.declared.fault.StructFault.{StructFault}
use Rattle.ls_structs.specs.declared.form.StructForm.{StructForm}
use Rattle.ls_structs.specs.declared.tree.Defined.{Defined}
use Rattle.ls_structs.specs.declared.tree.Defined.TheVariants as defined
use Rattle.ls_structs.specs.Forms.{definition}
use Rattle.ls_structs.specs.Trees.{Definitions, look_up, defined_by}
use Rattle.ls_env.specs.declared.definition.DefiningKind.{DefiningKind}
use Rattle.ls_env.specs.declared.definition.DefiningKind.TheVariants as defining
use Rattle.ls_env.specs.declared.status.NameStatus.{NameStatus}
use Rattle.ls_env.specs.declared.status.NameStatus.TheVariants as status
use Rattle.ls_env.specs.Definitions.{Definition, of_name}
use Rattle.ls_env.specs.Statuses.{names_in}

abbrev pub form_in : Result StructForm StructFault → Option StructForm
form_in (Ok form) = Some form
form_in (Err why) = None

-- what a definition says as a DEFSTRUCT, if it is one and in form
abbrev pub structure_form : Definition → DefiningKind → Option StructForm
structure_form d defining.Structure = form_in (definition d.form)
structure_form d _ = None

-- the DEFSTRUCT of a name that no other form defines
abbrev pub sole_form : List Definition → Option StructForm
sole_form (d ∷ []) = structure_form d d.kind
sole_form _ = None

-- those of the names, in the order of the file
abbrev pub structure_forms : List Definition → List StructForm
structure_forms ds = filter_map (λ s. sole_form (of_name s ds)) (names_in ds)

-- what they make, one after another, so that an included structure type stands before the one that includes it
abbrev pub tree_in : List Definition → Definitions
tree_in ds = defined_by (structure_forms ds)

-- ---- the status of a name that one DEFSTRUCT defines

-- by what the tree has of the name: a definition out of form, or one that the tree refuses, makes nothing
abbrev pub structure_status : Option Defined → NameStatus
structure_status (Some (defined.Structure include)) = status.Structure
structure_status (Some defined.Typed) = status.Typed
structure_status None = status.BadDefinition

abbrev pub by_tree : Definitions → Symbol → NameStatus → NameStatus
by_tree tree name status.Structure = structure_status (look_up name tree)
by_tree tree name s = s
