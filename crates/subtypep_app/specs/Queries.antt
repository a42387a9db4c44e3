-- What the queries of a text ask, and why one is refused (SUBTYPEP, TYPEP).
use Rattle.std.specs.Prelude.{List, [], ◌∷◌, drop, Option, Some, None}
use Rattle.ls_reader.specs.declared.datum.Datum.{Datum}
use Rattle.ls_reader.specs.declared.datum.Form.{Form, out-Form}
use Rattle.ls_reader.specs.declared.datum.Form.TheOpen.{Form-F}
use Rattle.ls_env.specs.declared.query.Query.{Query}
use Rattle.ls_env.specs.declared.query.QueryKind.{QueryKind}
use Rattle.ls_env.specs.declared.query.QueryKind.TheVariants as query_kind
use Rattle.ls_env.specs.Environments.{Environment}
use Rattle.ls_env.specs.Arguments.{value_of}
use Rattle.ls_grammar.specs.declared.refusal.RefusalKind.TheVariants as kind
use Rattle.ls_grammar.specs.declared.refusal.Refusal.{Refusal}
use Rattle.ls_grammar.specs.declared.literal.ObjectRefusal.{ObjectRefusal}
use Rattle.ls_grammar.specs.Numbers.{refusal}
use Rattle.ls_grammar.specs.Visiting.{refusal_of, earlier}
use Rattle.ls_grammar.specs.Literals.{literal_refusal}

-- what a query asks, or why it asks nothing
pub data Question : Type 0 where
  -- whether the type of the first datum is included in that of the second
  inclusion : Datum → Datum → Question
  -- whether the object of the first datum belongs to the type of the second
  membership : Datum → Datum → Question
  refused : Refusal → Question

abbrev pub bad_argument : Datum → Question
bad_argument d = refused (refusal kind.BadArgument d.span)

-- about the values of two arguments; the first argument that would have to be evaluated is the fault
abbrev pub inclusion_question : Datum → Datum → Option Datum → Option Datum → Question
inclusion_question a b None y = bad_argument a
inclusion_question a b (Some x) None = bad_argument b
inclusion_question a b (Some x) (Some y) = inclusion x y

-- SUBTYPEP takes two arguments, and may have a third one, which is passed over
abbrev pub subtypep_question : Datum → List Datum → Question
subtypep_question whole (a ∷ b ∷ []) = inclusion_question a b (value_of a) (value_of b)
subtypep_question whole (a ∷ b ∷ c ∷ []) = inclusion_question a b (value_of a) (value_of b)
subtypep_question whole _ = bad_argument whole

-- about an object that is written out, and the value of a type argument
abbrev pub membership_question : Datum → Datum → Option Datum → Question
membership_question o a None = bad_argument a
membership_question o a (Some x) = membership o x

-- TYPEP takes an object and a type, and may have a third argument, which is passed over
abbrev pub typep_question : Datum → List Datum → Question
typep_question whole (o ∷ a ∷ []) = membership_question o a (value_of a)
typep_question whole (o ∷ a ∷ c ∷ []) = membership_question o a (value_of a)
typep_question whole _ = bad_argument whole

-- what stands behind the operator of a form
abbrev pub arguments_in : Form-F Form Datum → List Datum
arguments_in (Form-F.List items) = drop 1 items
arguments_in _ = []

abbrev pub kind_question : QueryKind → Datum → Question
kind_question query_kind.Subtypep whole = subtypep_question whole (arguments_in (out-Form whole.form))
kind_question query_kind.Typep whole = typep_question whole (arguments_in (out-Form whole.form))

abbrev pub question_of : Query → Question
question_of query = kind_question query.kind query.form

-- why the object of a query is none, if it is
abbrev pub object_refusal_of : Question → Option ObjectRefusal
object_refusal_of (membership o a) = literal_refusal o
object_refusal_of (inclusion a b) = None
object_refusal_of (refused x) = None

-- what is wrong behind the object, where nothing is wrong with it
abbrev pub behind_object : Option ObjectRefusal → Option Refusal → Option Refusal
behind_object None r = r
behind_object (Some x) r = None

-- why a query is refused, if it is: by itself, or for the first of its types that is
abbrev pub refusal_of_question : Environment → Question → Option Refusal
refusal_of_question env (refused x) = Some x
refusal_of_question env (inclusion a b) = earlier (refusal_of env a) (refusal_of env b)
refusal_of_question env (membership o a) = behind_object (literal_refusal o) (refusal_of env a)
