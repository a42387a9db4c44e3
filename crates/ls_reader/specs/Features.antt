-- Feature expressions (24.1.2.1), which say whether the datum behind a `#+` or `#-` is there.
use Rattle.std.specs.Prelude.{ℕ, Bool, true, false, not, ◌&&◌, ◌||◌, if◌then◌else◌, nat_eq, List, [], ◌∷◌, Option, Some, None, codes}
use Rattle.std.specs.Cmp.Lexicographic.{pointwise}
use Rattle.ls_reader.specs.declared.datum.Datum.{Datum, fold-Datum}
use Rattle.ls_reader.specs.declared.feature.Operator.{Operator}
use Rattle.ls_reader.specs.declared.feature.Operator.TheVariants as operators
use Rattle.ls_reader.specs.declared.datum.Form.TheOpen.{Form-F, Datum-F}

-- what lists ask of a part of theirs: its name, where it is a symbol, and whether it holds, where it is a feature
-- expression
pub record Part : Type 0 where
  pub name : Option (List ℕ)
  pub value : Option Bool

-- whether two names are the same
abbrev pub same_name : List ℕ → List ℕ → Bool
same_name = pointwise nat_eq

-- the features of this reader, by name alone
abbrev pub is_feature : List ℕ → Bool
is_feature name = same_name name (codes "ANSI-CL") || same_name name (codes "COMMON-LISP")

-- both hold, where both are in form
abbrev pub both : Option Bool → Option Bool → Option Bool
both (Some a) (Some b) = Some (a && b)
both _ _ = None

-- one of two holds, where both are in form
abbrev pub either : Option Bool → Option Bool → Option Bool
either (Some a) (Some b) = Some (a || b)
either _ _ = None

-- AND of parts, which holds of none
abbrev pub conjunction : List Part → Option Bool
conjunction [] = Some true
conjunction (p ∷ ps) = both p.value (conjunction ps)

-- OR of parts, which does not hold of none
abbrev pub disjunction : List Part → Option Bool
disjunction [] = Some false
disjunction (p ∷ ps) = either p.value (disjunction ps)

-- the contrary of an expression
abbrev pub contrary : Option Bool → Option Bool
contrary (Some b) = Some (not b)
contrary None = None

-- NOT of exactly one part
abbrev pub negation : List Part → Option Bool
negation (p ∷ []) = contrary p.value
negation _ = None

-- the operator of a name
abbrev pub operator_of : List ℕ → Option Operator
operator_of name =
    if same_name name (codes "AND") then Some operators.And else
    (if same_name name (codes "OR") then Some operators.Or else
    (if same_name name (codes "NOT") then Some operators.Not else None))

-- the operator that the head of a list is, by its name if it has one
abbrev pub head_operator : Option (List ℕ) → Option Operator
head_operator (Some name) = operator_of name
head_operator None = None

-- an operator of parts
abbrev pub operation : Option Operator → List Part → Option Bool
operation (Some operators.And) ps = conjunction ps
operation (Some operators.Or) ps = disjunction ps
operation (Some operators.Not) ps = negation ps
operation None ps = None

-- whether a list of parts holds, where it is in form
abbrev pub compound : List Part → Option Bool
compound [] = None
compound (head ∷ ps) = operation (head_operator head.name) ps

-- one level, with each datum inside already seen as a part
abbrev pub form_step : Form-F Part Part → Part
form_step (Form-F.Symbol symbol) = record { name = Some symbol.name; value = Some (is_feature symbol.name) }
form_step (Form-F.List ps) = record { name = None; value = compound ps }
form_step _ = record { name = None; value = None }

abbrev pub datum_step : Datum-F Part Part → Part
datum_step d = d.form

-- a datum as a part
abbrev pub part : Datum → Part
part = fold-Datum Part Part form_step datum_step

-- whether a datum holds as a feature expression, where it is in form
abbrev pub holds : Datum → Option Bool
holds d = (part d).value

-- Whether the datum behind an expression is there: for `#+` where it holds, for `#-` where it does not.
abbrev pub is_kept : Bool → Option Bool → Bool
is_kept plus (Some true) = plus
is_kept plus (Some false) = not plus
is_kept plus None = false
