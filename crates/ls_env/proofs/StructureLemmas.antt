-- The tree of the structure types of a file, and the status of its names.
use Rattle.std.proofs.Common.{◌≡◌, ℕ, List, [], ◌∷◌, Option, Some, None, map, refl, ap, ◌∙◌}
use Rattle.std.specs.Prelude.{filter_map, fold}
use Rattle.std.specs.List.{cons_option}
use Rattle.ls_object.specs.declared.symbol.Symbol.{Symbol}
use Rattle.ls_object.specs.Universe.{IsStructureOf}
use Rattle.ls_structs.specs.declared.form.StructForm.{StructForm}
use Rattle.ls_structs.specs.declared.tree.Defined.{Defined}
use Rattle.ls_structs.specs.declared.tree.Defined.TheVariants as defined
use Rattle.ls_structs.specs.Trees.{Definitions, look_up, types, fault, unless_refused}
use Rattle.ls_structs.proofs.TreeLemmas.{found_is_type}
use Rattle.ls_env.specs.declared.status.NameStatus.{NameStatus}
use Rattle.ls_env.specs.declared.status.NameStatus.TheVariants as status
use Rattle.ls_env.specs.Definitions.{Definition, of_name}
use Rattle.ls_env.specs.Environments.{Environment, structures_of}
use Rattle.ls_env.specs.Naming.{status_of}
use Rattle.ls_env.specs.Statuses.{names_in, looked_up}
use Rattle.ls_env.specs.StructureTypes.{sole_form, tree_in, structure_status, by_tree}
use Rattle.ls_env.specs.steps.Gathered.{sole}
use Rattle.ls_env.specs.steps.Joining.{form_of, with_found, joined}

abbrev add : Definitions → StructForm → Definitions
add tree form = unless_refused tree form (fault tree form)

-- the definitions that are found are put in one after another
joined_is : (tree : Definitions) (ds : List (Option Definition)) → joined tree ds ≡ fold add tree (filter_map form_of ds)
joined_is tree [] = refl
joined_is tree (d ∷ ds) = by (form_of d) (joined_is (with_found tree (form_of d)) ds)
  where
    by : (o : Option StructForm) → joined (with_found tree o) ds ≡ fold add (with_found tree o) (filter_map form_of ds)
        → joined (with_found tree o) ds ≡ fold add tree (cons_option o (filter_map form_of ds))
    by None e = e
    by (Some form) e = e

-- the sole definition of a name, as a structure definition
sole_is : (ds : List Definition) → form_of (sole ds) ≡ sole_form ds
sole_is [] = refl
sole_is (d ∷ []) = refl
sole_is (d ∷ e ∷ ds) = refl

forms_are : (ds : List Definition) (names : List Symbol)
    → filter_map form_of (map (λ s. sole (of_name s ds)) names) ≡ filter_map (λ s. sole_form (of_name s ds)) names
forms_are ds [] = refl
forms_are ds (s ∷ names) =
    ap (λ (o : Option StructForm). cons_option o (filter_map form_of (map (λ t. sole (of_name t ds)) names))) (sole_is (of_name s ds))
    ∙ ap (cons_option (sole_form (of_name s ds))) (forms_are ds names)

-- what the code puts together is the tree of the definitions
pub tree_is : (ds : List Definition) → joined [] (map (λ s. sole (of_name s ds)) (names_in ds)) ≡ tree_in ds
tree_is ds =
    joined_is [] (map (λ s. sole (of_name s ds)) (names_in ds))
    ∙ ap (λ (forms : List StructForm). fold add [] forms) (forms_are ds (names_in ds))

found : (name : Symbol) (tree : Definitions) (o : Option Defined) → look_up name tree ≡ o → structure_status o ≡ status.Structure → IsStructureOf (types tree) name
found name tree None e s = absurd (cc)
found name tree (Some defined.Typed) e s = absurd (cc)
found name tree (Some (defined.Structure include)) e s = found_is_type name include tree e

type_told : (tree : Definitions) (name : Symbol) (s : NameStatus) → by_tree tree name s ≡ status.Structure → IsStructureOf (types tree) name
type_told tree name status.Structure e = found name tree (look_up name tree) refl e
type_told tree name status.Unknown e = absurd (cc)
type_told tree name (status.Deftype n) e = absurd (cc)
type_told tree name status.Typed e = absurd (cc)
type_told tree name status.Class e = absurd (cc)
type_told tree name status.Twice e = absurd (cc)
type_told tree name status.CodeBody e = absurd (cc)
type_told tree name status.BadDefinition e = absurd (cc)
type_told tree name status.Recursive e = absurd (cc)

-- a name with the status of a structure type is that of one
pub named_is_type : (env : Environment) (name : Symbol) → status_of env name ≡ status.Structure → IsStructureOf (structures_of env) name
named_is_type env name e = type_told env.tree name (looked_up env.names env.statuses name) e
