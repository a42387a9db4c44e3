-- The definitions among lent forms, with one form more.
use Rattle.std.proofs.Common.{◌≡◌, ℕ, ◌+◌, ◌<◌, List, [], ◌∷◌, ◌++◌, Option, Some, None, length, get_or, map, take, sym, ap, ◌∙◌, append-nil}
use Rattle.std.specs.Prelude.{filter_map}
use Rattle.std.proofs.lemmas.List.{map_more}
use Rattle.std.proofs.lemmas.List.Elements.{filter_map-append}
use Rattle.ls_reader.specs.declared.datum.Datum.{Datum}
use Rattle.ls_env.specs.Definitions.{Definition, definition_of, definitions}

-- the definition that a form is, if it is one
abbrev those : Option Definition → List Definition
those o = filter_map (λ (x : Option Definition). x) (o ∷ [])

-- one form more, be it a definition or none
with_form : {P : Type 0} (at : P → Datum) (ps : List P) (i : ℕ) (p : P) (old : List Definition) (o : Option Definition)
    → i < length ps → p ≡ get_or ps i p → old ≡ definitions (map at (take i ps)) → o ≡ definition_of (at p)
    → old ++ those o ≡ definitions (map at (take (i + 1) ps))
with_form at ps i p old o h is before told =
    ap (λ (x : Option Definition). old ++ those x) told
    ∙ ap (λ (ds : List Definition). ds ++ definitions (at p ∷ [])) before
    ∙ sym (filter_map-append definition_of (map at (take i ps)) (at p ∷ []))
    ∙ ap (λ e. definitions (map at (take i ps) ++ at e ∷ [])) is
    ∙ ap definitions (sym (map_more at ps i p h))

-- a form that is a definition
pub definitions_more : {P : Type 0} (at : P → Datum) (ps : List P) (i : ℕ) (p : P) (old : List Definition)
    (d : Definition)
    → i < length ps → p ≡ get_or ps i p → old ≡ definitions (map at (take i ps)) → Some d ≡ definition_of (at p)
    → old ++ d ∷ [] ≡ definitions (map at (take (i + 1) ps))
definitions_more at ps i p old d h is before told = with_form at ps i p old (Some d) h is before told

-- a form that is none
pub definitions_same : {P : Type 0} (at : P → Datum) (ps : List P) (i : ℕ) (p : P) (old : List Definition)
    → i < length ps → p ≡ get_or ps i p → old ≡ definitions (map at (take i ps)) → None ≡ definition_of (at p)
    → old ≡ definitions (map at (take (i + 1) ps))
definitions_same at ps i p old h is before told = sym (append-nil old) ∙ with_form at ps i p old None h is before told
