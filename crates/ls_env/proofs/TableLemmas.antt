-- Templates with their numbers, with what is said of one name more.
use Rattle.std.proofs.Common.{◌≡◌, ℕ, ◌+◌, List, [], ◌∷◌, ◌++◌, length, map, sym, ap, ◌∙◌, append-nil, arith}
use Rattle.std.proofs.lemmas.List.{map_push, length-map}
use Rattle.std.proofs.lemmas.List.Elements.{filter_map-append}
use Rattle.ls_deftype.specs.declared.template.Template.{Template}
use Rattle.ls_deftype.specs.Templates as deftype
use Rattle.ls_env.specs.declared.status.NameStatus.{NameStatus}
use Rattle.ls_env.specs.declared.status.NameStatus.TheVariants as status
use Rattle.ls_env.specs.declared.table.Table.{Table}
use Rattle.ls_env.specs.Statuses.{Standing, template, settled, template_in, templates_in, numbered}
use Rattle.ls_env.specs.steps.Gathered.{IsTableOf}

-- the status of one more
abbrev one_more : ℕ → Standing → List NameStatus
one_more n s = numbered n (s ∷ [])

-- the statuses with what is said of one name more
numbered_more : (n : ℕ) (ss : List Standing) (s : Standing)
    → numbered n (ss ++ s ∷ []) ≡ numbered n ss ++ one_more (n + length (templates_in ss)) s
numbered_more n [] s = let e : n ≡ n + 0 = omega arith in ap (λ (k : ℕ). one_more k s) e
numbered_more n (settled x ∷ ss) s = ap (λ (xs : List NameStatus). x ∷ xs) (numbered_more n ss s)
numbered_more n (template t ∷ ss) s =
    let e : n + 1 + length (templates_in ss) ≡ n + length (templates_in (template t ∷ ss)) = omega arith in
    ap (λ (xs : List NameStatus). status.Deftype n ∷ xs)
    (numbered_more (n + 1) ss s ∙ ap (λ (k : ℕ). numbered (n + 1) ss ++ one_more k s) e)

-- the statuses with another one more
settled_more : (ss : List Standing) (x : NameStatus) → numbered 0 (ss ++ settled x ∷ []) ≡ numbered 0 ss ++ x ∷ []
settled_more ss x = numbered_more 0 ss (settled x)

-- the statuses with that of a template more
template_more : (ss : List Standing) (t : deftype.Definition) (n : ℕ) → n ≡ length (templates_in ss)
    → numbered 0 (ss ++ template t ∷ []) ≡ numbered 0 ss ++ status.Deftype n ∷ []
template_more ss t n e =
    let count : 0 + length (templates_in ss) ≡ n = omega (arith, e) in
    numbered_more 0 ss (template t) ∙ ap (λ (k : ℕ). numbered 0 ss ++ one_more k (template t)) count

-- what is no template leaves the templates as they are
templates_settled : (ss : List Standing) (x : NameStatus) → templates_in (ss ++ settled x ∷ []) ≡ templates_in ss
templates_settled ss x =
    filter_map-append template_in ss (settled x ∷ []) ∙ append-nil (templates_in ss)

-- the templates with one more
templates_more : (ss : List Standing) (t : deftype.Definition)
    → templates_in (ss ++ template t ∷ []) ≡ templates_in ss ++ t ∷ []
templates_more ss t = filter_map-append template_in ss (template t ∷ [])

-- a table with a template and its status more
pub table_template : (ss : List Standing) (old new : Table) (made : Template) (n : ℕ) → n ≡ length old.templates
    → new.statuses ≡ old.statuses ++ status.Deftype n ∷ [] → new.templates ≡ old.templates ++ made ∷ []
    → IsTableOf ss old → IsTableOf (ss ++ template (deftype.definition_of made) ∷ []) new
table_template ss old new made n is added pushed h =
    let count : n ≡ length (templates_in ss) =
    is ∙ sym (length-map old.templates deftype.definition_of)
    ∙ ap (λ (ts : List deftype.Definition). length ts) h.templates in
    record {
      statuses =
          added
          ∙ ap (λ (xs : List NameStatus). xs ++ status.Deftype n ∷ []) h.statuses
          ∙ sym (template_more ss (deftype.definition_of made) n count);
      templates =
          ap (map deftype.definition_of) pushed
          ∙ map_push deftype.definition_of old.templates made
          ∙ ap (λ (ts : List deftype.Definition). ts ++ deftype.definition_of made ∷ []) h.templates
          ∙ sym (templates_more ss (deftype.definition_of made));
    }

-- a table with another status more
pub table_settled : (ss : List Standing) (old new : Table) (x : NameStatus)
    → new.statuses ≡ old.statuses ++ x ∷ [] → new.templates ≡ old.templates
    → IsTableOf ss old → IsTableOf (ss ++ settled x ∷ []) new
table_settled ss old new x added same h =
    record {
      statuses = added ∙ ap (λ (xs : List NameStatus). xs ++ x ∷ []) h.statuses ∙ sym (settled_more ss x);
      templates = ap (map deftype.definition_of) same ∙ h.templates ∙ sym (templates_settled ss x);
    }
