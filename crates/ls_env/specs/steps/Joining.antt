-- How the code puts structure definitions into a tree.
use Rattle.std.specs.Prelude.{List, [], ◌∷◌, Option, Some, None}
use Rattle.ls_structs.specs.declared.form.StructForm.{StructForm}
use Rattle.ls_structs.specs.Trees.{Definitions, fault, unless_refused}
use Rattle.ls_env.specs.Definitions.{Definition}
use Rattle.ls_env.specs.StructureTypes.{structure_form}

-- the structure definition that the one definition of a name is
abbrev pub form_of : Option Definition → Option StructForm
form_of (Some d) = structure_form d d.kind
form_of None = None

-- with a structure definition, if there is one and it is not refused
abbrev pub with_found : Definitions → Option StructForm → Definitions
with_found tree None = tree
with_found tree (Some form) = unless_refused tree form (fault tree form)

-- with those of names, one after another
abbrev pub joined : Definitions → List (Option Definition) → Definitions
joined tree [] = tree
joined tree (d ∷ ds) = joined (with_found tree (form_of d)) ds
