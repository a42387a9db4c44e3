-- The generated forms as top-level forms: each gives itself alone, two of three are queries, and one defines a name.
use Rattle.std.proofs.Common.{◌≡◌, refl, ap, ◌∙◌, ℕ, List, [], ◌∷◌, Option, Some, None, codes}
use Rattle.ls_reader.specs.declared.datum.Datum.{Datum}
use Rattle.ls_reader.specs.declared.datum.Form.{out-Form}
use Rattle.ls_reader.specs.declared.datum.Form.TheOpen.{Form-F}
use Rattle.ls_deftype.specs.Templates.{template_of}
use Rattle.ls_env.specs.declared.query.Query.{Query}
use Rattle.ls_env.specs.declared.query.QueryKind.TheVariants as query_kind
use Rattle.ls_env.specs.TopLevel.{head_operator, top_of, top_in, entered, asked, asked_by, asked_form, query_with}
use Rattle.ls_env.specs.Definitions.{Definition, definition_of, definition_in, definition_by}
use Rattle.ls_env.specs.Statuses.{by_template, by_definition}
use Rattle.ls_env.specs.steps.Gathered.{inside_of}
use Rattle.ls_env.proofs.TopLemmas.{tops_is}
use Rattle.ls_gen.specs.Shapes.{IsName}
use Rattle.ls_gen.proofs.TypeNameLemmas.{type_symbol, not_built_in}

-- a form that is a list of more than one datum, the first of which is a symbol of the package COMMON-LISP
pub record IsCall (operator : List ℕ) (name : Datum) (d : Datum) : Type 0 where
  pub head : Datum
  pub items : List Datum
  pub form : out-Form d.form ≡ Form-F.List (head ∷ name ∷ items)
  pub called : IsName operator head

-- a DEFTYPE gives itself alone
pub deftype_alone : (d name : Datum) → IsCall (codes "DEFTYPE") name d → top_of d ≡ d ∷ []
deftype_alone d name h =
    tops_is d
    ∙ ap (λ f. d ∷ inside_of f) h.form
    ∙ ap (λ f. d ∷ top_in (entered (head_operator f) (h.head ∷ name ∷ h.items))) h.called

-- and so does a SUBTYPEP
pub query_alone : (d name : Datum) → IsCall (codes "SUBTYPEP") name d → top_of d ≡ d ∷ []
query_alone d name h =
    tops_is d
    ∙ ap (λ f. d ∷ inside_of f) h.form
    ∙ ap (λ f. d ∷ top_in (entered (head_operator f) (h.head ∷ name ∷ h.items))) h.called

-- a DEFTYPE asks nothing
pub deftype_asks : (d name : Datum) → IsCall (codes "DEFTYPE") name d → query_with d (asked d) ≡ []
deftype_asks d name h =
    ap (λ f. query_with d (asked_form f)) h.form ∙ ap (λ f. query_with d (asked_by (head_operator f))) h.called

-- the query that a form is
abbrev pub query_by : Datum → Query
query_by d = record { kind = query_kind.Subtypep; form = d }

-- a SUBTYPEP asks for inclusion
pub query_asks : (d name : Datum) → IsCall (codes "SUBTYPEP") name d → query_with d (asked d) ≡ query_by d ∷ []
query_asks d name h =
    ap (λ f. query_with d (asked_form f)) h.form ∙ ap (λ f. query_with d (asked_by (head_operator f))) h.called

-- a SUBTYPEP defines nothing
pub query_defines : (d name : Datum) → IsCall (codes "SUBTYPEP") name d → definition_of d ≡ None
query_defines d name h = ap (definition_in d) h.form ∙ ap (λ f. definition_by (head_operator f) name d) h.called

-- what a definition of a number's type by a form says
pub record DefinesType (i : ℕ) (form : Datum) (d : Definition) : Type 0 where
  pub name : d.name ≡ type_symbol i
  pub by_form : by_definition d d.kind ≡ by_template (template_of form)

-- there is such a definition
abbrev pub IsSomeType : ℕ → Datum → Option Definition → Type 0
IsSomeType i form None = ⊥
IsSomeType i form (Some d) = DefinesType i form d

-- a DEFTYPE of a number's type defines it
pub deftype_defines : (d name : Datum) (i : ℕ) → IsCall (codes "DEFTYPE") name d
    → out-Form name.form ≡ Form-F.Symbol (type_symbol i)
    → IsSomeType i d (definition_of d)
deftype_defines d name i h named =
    let form = h.form in
    let called = h.called in
    let plain = not_built_in i in
    rw form (rw called (rw named (rw plain (record { name = refl; by_form = refl }))))
