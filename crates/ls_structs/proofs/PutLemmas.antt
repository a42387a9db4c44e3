-- What one more definition makes of the map of the names and of the list of the structure types.
use Rattle.std.proofs.Common.{◌≡◌, refl, sym, ap, subst, ◌∙◌, [], ◌∷◌, ◌++◌, append-nil}
use Rattle.std.proofs.Common.{Option, Some, None, true≢false, is_some}
use Rattle.std.specs.Option.{ForSome}
use Rattle.indexmap.specs.IndexMap.{insert_entry}
use Rattle.ls_object.specs.declared.symbol.Symbol.{Symbol}
use Rattle.ls_object.specs.Symbols.{same_symbol}
use Rattle.ls_object.specs.Universe.{Structures, IsStructureOf}
use Rattle.ls_structs.specs.declared.tree.Defined.{Defined}
use Rattle.ls_structs.specs.declared.tree.Defined.TheVariants.{Typed, Structure}
use Rattle.ls_structs.specs.Trees.{Definitions, look_up, types, why_not_included, include_fault}
use Rattle.ls_structs.proofs.TreeLemmas.{types_push, goes_behind, undefined_is_no_type, found_is_type}

-- a new name goes behind the others
pub put_new : (old entries : Definitions) (key : Symbol) (value : Defined) (known : Definitions) (name : Symbol)
    (made : Defined) → old ≡ known → key ≡ name → value ≡ made → look_up name known ≡ None
    → entries ≡ insert_entry same_symbol old key value → entries ≡ known ++ (name, made) ∷ []
put_new old entries key value known name made is named means new put =
    put ∙ ap (λ l. insert_entry same_symbol l key value) is ∙ ap (λ n. insert_entry same_symbol known n value) named
    ∙ ap (insert_entry same_symbol known name) means ∙ goes_behind known name made new

-- a typed name is no structure type
pub types_with_typed : (known new : Definitions) (name : Symbol) (listed : Structures) → listed ≡ types known
    → new ≡ known ++ (name, Typed) ∷ [] → listed ≡ types new
types_with_typed known new name listed are e =
    are ∙ sym (append-nil (types known)) ∙ sym (types_push known (name, Typed)) ∙ ap types (sym e)

-- a structure type goes behind the others
pub types_with_structure : (known new : Definitions) (name : Symbol) (include : Option Symbol)
    (listed longer : Structures) → listed ≡ types known → longer ≡ listed ++ (name, include) ∷ []
    → new ≡ known ++ (name, Structure include) ∷ [] → longer ≡ types new
types_with_structure known new name include listed longer are put e =
    put ∙ ap (λ t. t ++ (name, include) ∷ []) are ∙ sym (types_push known (name, Structure include)) ∙ ap types (sym e)

-- a new name is that of no structure type
pub new_is_no_type : (known : Definitions) (name key : Symbol) (listed : Structures) → listed ≡ types known
    → key ≡ name → look_up name known ≡ None → IsStructureOf listed key → ⊥
new_is_no_type known name key listed are named new h =
    undefined_is_no_type name known new
    (subst (IsStructureOf (types known)) named (subst (λ l. IsStructureOf l key) are h))

-- what may be included is a structure type
included_is_type : (known : Definitions) (include : Option Symbol) → include_fault known include ≡ None
    → ForSome include (IsStructureOf (types known))
included_is_type known None none z e = absurd (true≢false (ap is_some (sym e)))
included_is_type known (Some w) none z e =
    let same : w ≡ z = cc in
    subst (IsStructureOf (types known)) same (by (look_up w known) refl)
  where
    by : (r : Option Defined) → look_up w known ≡ r → IsStructureOf (types known) w
    by None e = absurd (true≢false (ap is_some (sym (ap why_not_included e) ∙ none)))
    by (Some Typed) e = absurd (true≢false (ap is_some (sym (ap why_not_included e) ∙ none)))
    by (Some (Structure include)) e = found_is_type w include known e

-- so what is listed behind may include it
pub listed_is_type : (known : Definitions) (include copied : Option Symbol) (listed : Structures)
    → listed ≡ types known → copied ≡ include → include_fault known include ≡ None
    → ForSome copied (IsStructureOf listed)
listed_is_type known include copied listed are named none z e =
    subst (λ l. IsStructureOf l z) (sym are) (included_is_type known include none z (sym named ∙ e))
