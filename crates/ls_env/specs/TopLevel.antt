-- The top-level forms of a file (3.2.3.1), and its queries.
use Rattle.std.specs.Prelude.{ℕ, List, [], ◌∷◌, map, drop, codes, ◌||◌, Option, Some, None, if◌then◌else◌}
use Rattle.std.specs.List.{flat_map}
use Rattle.ls_object.specs.declared.symbol.Symbol.{Symbol}
use Rattle.ls_object.specs.ObjectText.{is_text}
use Rattle.ls_reader.specs.declared.datum.Datum.{Datum, para-Datum}
use Rattle.ls_reader.specs.declared.datum.Form.{Form, out-Form}
use Rattle.ls_reader.specs.declared.datum.Form.TheOpen.{Form-F, Datum-F}
use Rattle.ls_env.specs.declared.operator.Operator.{Operator}
use Rattle.ls_env.specs.declared.operator.Operator.TheVariants as operator
use Rattle.ls_env.specs.declared.query.QueryKind.{QueryKind}
use Rattle.ls_env.specs.declared.query.QueryKind.TheVariants as query_kind
use Rattle.ls_env.specs.declared.query.Query.{Query}

-- the operators that define names of types
abbrev pub defining_operator_named : List ℕ → Operator
defining_operator_named name =
    if is_text name (codes "DEFTYPE") then operator.Deftype
    else (if is_text name (codes "DEFSTRUCT") then operator.Defstruct
    else (if is_text name (codes "DEFCLASS") || is_text name (codes "DEFINE-CONDITION") then operator.Defclass
    else operator.Other))

-- what a name of the package COMMON-LISP means as an operator
abbrev pub operator_named : List ℕ → Operator
operator_named name =
    if is_text name (codes "PROGN") then operator.Progn
    else (if is_text name (codes "EVAL-WHEN") then operator.EvalWhen
    else (if is_text name (codes "SUBTYPEP") then operator.Subtypep
    else (if is_text name (codes "TYPEP") then operator.Typep
    else defining_operator_named name)))

-- what a symbol means as an operator
abbrev pub operator_of : Symbol → Operator
operator_of s = if is_text s.package (codes "COMMON-LISP") then operator_named s.name else operator.Other

abbrev pub head_operator : Form-F Form Datum → Operator
head_operator (Form-F.Symbol s) = operator_of s
head_operator _ = operator.Other

-- what a datum means as an operator
abbrev pub operator_at : Datum → Operator
operator_at head = head_operator (out-Form head.form)

-- what the first datum of a list means as its operator
abbrev pub operator_of_list : List Datum → Operator
operator_of_list [] = operator.Other
operator_of_list (head ∷ args) = operator_at head

-- which of the items of a list with that operator, the operator among them, stand in it as top-level forms
abbrev pub entered : {X : Type 0} → Operator → List X → List X
entered operator.Progn items = drop 1 items
entered operator.EvalWhen items = drop 2 items
entered _ items = []

-- the top-level forms inside a list; each of its items has those that it gives beside it
abbrev pub inside_list : List (Datum × List Datum) → List Datum
inside_list items = flat_map (λ item. item.1) (entered (operator_of_list (map (λ item. item.0) items)) items)

abbrev pub inside_form : Form-F (Form × List Datum) (Datum × List Datum) → List Datum
inside_form (Form-F.List items) = inside_list items
inside_form _ = []

abbrev pub with_inside : Datum-F (Form × List Datum) (Datum × List Datum) → List Datum
with_inside d = record { span = d.span; form = d.form.0 } ∷ d.form.1

-- the top-level forms that a form in a top-level place gives: itself, and in turn those inside it
unfoldable pub top_of : Datum → List Datum
top_of = para-Datum (List Datum) (List Datum) inside_form with_inside

-- the top-level forms of a file's forms
abbrev pub top_in : List Datum → List Datum
top_in forms = flat_map top_of forms

-- what a form of that operator asks for
abbrev pub asked_by : Operator → Option QueryKind
asked_by operator.Subtypep = Some query_kind.Subtypep
asked_by operator.Typep = Some query_kind.Typep
asked_by _ = None

abbrev pub asked_form : Form-F Form Datum → Option QueryKind
asked_form (Form-F.List items) = asked_by (operator_of_list items)
asked_form _ = None

-- what a form asks for, if it is a query
abbrev pub asked : Datum → Option QueryKind
asked d = asked_form (out-Form d.form)

abbrev pub query_with : Datum → Option QueryKind → List Query
query_with d None = []
query_with d (Some kind) = record { kind = kind; form = d } ∷ []

-- the queries among forms, in order
unfoldable pub queries_of : List Datum → List Query
queries_of forms = flat_map (λ d. query_with d (asked d)) forms
