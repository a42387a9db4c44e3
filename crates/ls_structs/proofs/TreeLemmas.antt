-- Names among definitions, and the structure types among them.
use Rattle.std.proofs.Common.{◌≡◌, refl, sym, ap, subst, ◌∙◌, [], ◌∷◌, ◌++◌, append-nil}
use Rattle.std.proofs.Common.{Option, Some, None, Bool, true, false, true≢false, is_some, arith}
use Rattle.std.specs.Prelude.{if◌then◌else◌}
use Rattle.std.specs.Cmp.{IsEquivalence}
use Rattle.std.specs.Cmp.Lexicographic.{on_texts_equal}
use Rattle.std.proofs.lemmas.Cmp.{and_equiv}
use Rattle.std.proofs.lemmas.Grind.{flat_map-append}
use Rattle.std.proofs.lemmas.Map.Made.{Contains-tail}
use Rattle.std.proofs.lemmas.List.Elements.{Contains-append_right, Contains-get_or}
use Rattle.indexmap.specs.IndexMap.{insert_entry}
use Rattle.indexmap.proofs.MapLemmas.{insert_entry-absent, absent_from_lookup}
use Rattle.ls_object.specs.declared.symbol.Symbol.{Symbol}
use Rattle.ls_object.specs.Symbols.{same_symbol}
use Rattle.ls_object.specs.Universe.{IsStructureOf}
use Rattle.ls_object.proofs.SymbolLemmas.{Decides-symbol}
use Rattle.ls_structs.specs.declared.tree.Defined.{Defined}
use Rattle.ls_structs.specs.declared.tree.Defined.TheVariants.{Typed, Structure}
use Rattle.ls_structs.specs.Trees.{Definitions, look_up, type_of, types}

-- the test of symbols is an equivalence
pub symbols_alike : IsEquivalence same_symbol
symbols_alike = and_equiv (on_texts_equal (λ (s : Symbol). s.package)) (on_texts_equal (λ (s : Symbol). s.name))

-- a definition behind the others
pub types_push : (defined : Definitions) (d : Symbol × Defined) → types (defined ++ d ∷ []) ≡ types defined ++ type_of d
types_push defined d = flat_map-append type_of defined (d ∷ []) ∙ ap (λ t. types defined ++ t) (append-nil (type_of d))

-- what is not found stands behind the first name
passed : (name other : Symbol) (made : Defined) (defined : Definitions) → look_up name ((other, made) ∷ defined) ≡ None
    → (same_symbol name other ≡ false) × (look_up name defined ≡ None)
passed name other made defined none = by (same_symbol name other) refl
  where
    by : (b : Bool) → same_symbol name other ≡ b → (same_symbol name other ≡ false) × (look_up name defined ≡ None)
    by true e =
        absurd (true≢false (ap is_some (sym (ap (λ b. if b then Some made else look_up name defined) e) ∙ none)))
    by false e = (e, sym (ap (λ b. if b then Some made else look_up name defined) e) ∙ none)

-- a name that is not found goes behind the others
pub goes_behind : (defined : Definitions) (name : Symbol) (made : Defined) → look_up name defined ≡ None
    → insert_entry same_symbol defined name made ≡ defined ++ (name, made) ∷ []
goes_behind defined name made none =
    insert_entry-absent same_symbol name made defined (absent_from_lookup (same_symbol name) defined none)

-- a name that is not defined is that of no structure type
pub undefined_is_no_type : (name : Symbol) (defined : Definitions) → look_up name defined ≡ None
    → IsStructureOf (types defined) name → ⊥
undefined_is_no_type name [] none (include, (k, within, e)) = absurd (omega arith)
undefined_is_no_type name ((other, Typed) ∷ defined) none listed =
    undefined_is_no_type name defined (passed name other Typed defined none).1 listed
undefined_is_no_type name ((other, Structure include) ∷ defined) none (i, at) =
    let rest = passed name other (Structure include) defined none in
    let apart = λ (e : (other, include) ≡ (name, i)).
    true≢false (sym ((Decides-symbol name other).1 (sym (ap (λ q. q.0) e))) ∙ rest.0) in
    undefined_is_no_type name defined rest.1 (i, Contains-tail (other, include) (types defined) (name, i) apart at)

-- a structure type behind a definition
type_behind : (d : Symbol × Defined) (defined : Definitions) (name : Symbol) → IsStructureOf (types defined) name
    → IsStructureOf (types (d ∷ defined)) name
type_behind (other, Typed) defined name listed = listed
type_behind (other, Structure z) defined name (i, at) =
    (i, Contains-append_right ((other, z) ∷ []) (types defined) (name, i) at)

-- the first definition is that of a structure type
first_is_type : (name : Symbol) (include : Option Symbol) (defined : Definitions)
    → IsStructureOf (types ((name, Structure include) ∷ defined)) name
first_is_type name include defined =
    (include, Contains-get_or ((name, include) ∷ types defined) 0 (name, include) (omega arith))

-- a name that is found as that of a structure type is in the list of these
pub found_is_type : (name : Symbol) (include : Option Symbol) (defined : Definitions)
    → look_up name defined ≡ Some (Structure include) → IsStructureOf (types defined) name
found_is_type name include [] found = absurd (true≢false (sym (ap is_some found)))
found_is_type name include ((other, made) ∷ defined) found =
    by (same_symbol name other) refl (found_is_type name include defined)
  where
    by : (b : Bool) → same_symbol name other ≡ b
        → (look_up name defined ≡ Some (Structure include) → IsStructureOf (types defined) name)
        → IsStructureOf (types ((other, made) ∷ defined)) name
    by true e deeper =
        let same : name ≡ other = (Decides-symbol name other).0 e in
        let is : Some made ≡ Some (Structure include) =
        sym (ap (λ b. if b then Some made else look_up name defined) e) ∙ found in
        let what : made ≡ Structure include = cc in
        subst (λ x. IsStructureOf (types ((other, x) ∷ defined)) name) (sym what)
        (subst (λ n. IsStructureOf (types ((n, Structure include) ∷ defined)) name) same
        (first_is_type name include defined))
    by false e deeper =
        type_behind (other, made) defined name
        (deeper (sym (ap (λ b. if b then Some made else look_up name defined) e) ∙ found))
