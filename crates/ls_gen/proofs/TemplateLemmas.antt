-- What the definition of a generated type says: a template without parameters, over the quoted body.
use Rattle.std.proofs.Common.{◌≡◌, ap, ◌∙◌, ℕ, [], Bool, false, None, Ok, Err, codes}
use Rattle.std.specs.Prelude.{if◌then◌else◌}
use Rattle.ls_reader.specs.declared.datum.Datum.{Datum}
use Rattle.ls_deftype.specs.declared.fault.TemplateFault.TheVariants as fault
use Rattle.ls_deftype.specs.Bodies.{Body, plain_body, body_form}
use Rattle.ls_deftype.specs.Quoting.{quoted_form, items_form}
use Rattle.ls_deftype.specs.LambdaLists.{with_distinct, written_in}
use Rattle.ls_deftype.specs.Marks.{Rules}
use Rattle.ls_deftype.specs.Templates.{Definition, template_form, template_of, with_body, with_parameters}
use Rattle.ls_gen.specs.Shapes.{IsName, IsQuoted, IsBody, IsDefinition, type_name}
use Rattle.ls_gen.proofs.ItemLemmas.{IsQuadruple, quadruple_of_shapes}
use Rattle.ls_gen.proofs.BodyLemmas.{body_parts}
use Rattle.ls_gen.proofs.SubstitutionLemmas.{body_clean}

-- the parts of the definition of a number's type
abbrev pub IsTypeForm : ℕ → Datum → Type 0
IsTypeForm i = IsQuadruple (IsName (codes "DEFTYPE")) (IsName (type_name i)) (IsName (codes "NIL"))
    (IsQuoted (IsBody i))

-- the definition of a number's type has these parts
pub type_form : (i : ℕ) (d : Datum) → IsDefinition i d → IsTypeForm i d
type_form i d h = quadruple_of_shapes _ _ _ _ d h

-- the template without parameters over a body
abbrev pub template_over : Datum → Definition
template_over x = record { required = []; optional = []; rest = None; body = x }

-- a body without parameters is judged by these rules
abbrev plain_rules : Rules
plain_rules = record { backquoted = false; names = []; rest = None }

-- the definition of a number's type says the template over its body
pub type_template : (i : ℕ) (d : Datum) (h : IsTypeForm i d) → template_of d ≡ Ok (template_over h.fourth.0)
type_template i d h =
    let lambda = h.three in
    let last = h.four in
    let x = h.fourth.0 in
    let b : Body = record { backquoted = false; datum = x } in
    ap template_form h.form
    ∙ ap (λ f. with_body lambda (body_form last f)) h.fourth.1
    ∙ ap (λ f. with_body lambda (plain_body (quoted_form f))) h.fourth.1
    ∙ ap (λ f. with_parameters b (with_distinct (written_in (items_form f)))) h.third
    ∙ ap (λ (s : Bool). if s then Ok (template_over x) else Err fault.CodeBody)
    (body_clean plain_rules i x (body_parts i x h.fourth.2))
