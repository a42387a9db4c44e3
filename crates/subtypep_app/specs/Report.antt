-- The report on a text: a right line for each query, or the one line of a text that can't be read.
use Rattle.std.specs.Prelude.{◌≡◌, ℕ, Bool, true, false, List, [], ◌∷◌, ◌++◌, Some, codes, decimal}
use Rattle.std.specs.List.{AllZip, list_any}
use Rattle.ls_object.specs.Universe.{LispObject}
use Rattle.ls_object.specs.Meaning.{lisp_object}
use Rattle.ls_object.specs.ObjectText.{object_text}
use Rattle.ls_reader.specs.declared.datum.Datum.{Datum}
use Rattle.ls_reader.specs.declared.datum.Span.{Span}
use Rattle.ls_reader.specs.declared.fault.ReadError.{ReadError}
use Rattle.ls_reader.specs.declared.fault.ReadError.TheVariants as errors
use Rattle.ls_spec.specs.Specifier.{Specifier}
use Rattle.ls_env.specs.declared.query.Query.{Query}
use Rattle.ls_env.specs.Environments.{Environment, environment, structures_of}
use Rattle.ls_grammar.specs.declared.refusal.RefusalKind.{RefusalKind}
use Rattle.ls_grammar.specs.declared.refusal.RefusalKind.TheVariants as kind
use Rattle.ls_grammar.specs.declared.literal.ObjectRefusal.{ObjectRefusal}
use Rattle.ls_grammar.specs.declared.literal.ObjectRefusal.TheVariants as literal
use Rattle.ls_grammar.specs.Visiting.{Resolves}
use Rattle.ls_grammar.specs.Literals.{IsLiteral}
use Rattle.ls_decide.specs.declared.answer.Answer.{Answer}
use Rattle.ls_decide.specs.declared.answer.Answer.TheVariants.{Yes, No, Unsure, TooLarge}
use Rattle.ls_decide.specs.declared.answer.Belongs.{Belongs}
use Rattle.ls_decide.specs.declared.answer.Belongs.TheVariants as belongs
use Rattle.ls_decide.specs.Answers.{IsRight, IsRightMembership}
use Rattle.subtypep_app.specs.declared.line.Line.{Line}
use Rattle.subtypep_app.specs.declared.line.Line.TheVariants.{Answered, Placed, Refused, NoObject}
use Rattle.subtypep_app.specs.Queries.{Question, inclusion, membership, question_of, refusal_of_question, object_refusal_of}

-- ---- what a report is

-- a line for each item, in order
abbrev pub lines_text : {X L : Type 0} → (X → L → List ℕ) → List X → List L → List ℕ
lines_text text_of (x ∷ xs) (line ∷ lines) = text_of x line ++ lines_text text_of xs lines
lines_text text_of _ _ = []

-- The text of a right line for each item, in order, and whether one of them is a finding. Where several lines are
-- right, as for several witnesses, it is free which one is written.
pub record AreReported {X L : Type 0} (IsRightFor : X → L → Type 0) (text_of : X → L → List ℕ) (is_finding : L → Bool)
    (items : List X) (found : Bool) (report : List ℕ) : Type 0 where
  pub lines : List L
  pub right : AllZip IsRightFor items lines
  pub text : report ≡ lines_text text_of items lines
  pub found_is : found ≡ list_any is_finding lines

-- ---- the lines of queries

-- A line is right for what was asked: it is the refusal, or it answers about the specifiers of both types, or about the
-- object and the specifier of its type, under the budget.
abbrev pub IsRightLine : ℕ → Environment → Question → Line → Type 0
IsRightLine budget env question (Refused x) = refusal_of_question env question ≡ Some x
IsRightLine budget env question (NoObject x) = object_refusal_of question ≡ Some x
IsRightLine budget env (inclusion a b) (Answered answer) =
    (s : Specifier) × (t : Specifier) × Resolves env a s × Resolves env b t × IsRight (structures_of env) s t budget answer
IsRightLine budget env (membership d a) (Placed answer) =
    (o : LispObject) × (s : Specifier) × IsLiteral d o × Resolves env a s
    × IsRightMembership (structures_of env) o s budget answer
IsRightLine budget env _ _ = ⊥

-- the line is right for the query
abbrev pub IsLineOf : ℕ → Environment → Query → Line → Type 0
IsLineOf budget env query line = IsRightLine budget env (question_of query) line

-- a place is its line and its column
abbrev pub place_text : Span → List ℕ
place_text span = decimal span.line ++ codes ":" ++ decimal span.column

abbrev pub answer_text : Answer → List ℕ
answer_text Yes = codes "T"
answer_text (No o) = codes "NIL WITNESS " ++ object_text (lisp_object o)
answer_text (Unsure o) = codes "NIL UNSURE " ++ object_text (lisp_object o)
answer_text TooLarge = codes "TOO-LARGE"

abbrev pub membership_text : Belongs → List ℕ
membership_text belongs.Inside = codes "T"
membership_text belongs.Outside = codes "NIL"
membership_text belongs.Depends = codes "UNSURE"
membership_text belongs.TooLarge = codes "TOO-LARGE"

-- a kind is written in capitals, with a hyphen between its words
abbrev pub refusal_name : RefusalKind → List ℕ
refusal_name kind.UnknownType = codes "UNKNOWN-TYPE"
refusal_name kind.ClassType = codes "CLASS-TYPE"
refusal_name kind.NameTwice = codes "NAME-TWICE"
refusal_name kind.RecursiveType = codes "RECURSIVE-TYPE"
refusal_name kind.CodeBody = codes "CODE-BODY"
refusal_name kind.BadDefinition = codes "BAD-DEFINITION"
refusal_name kind.ArgumentCount = codes "ARGUMENT-COUNT"
refusal_name kind.FloatRange = codes "FLOAT-RANGE"
refusal_name kind.ComplexPart = codes "COMPLEX-PART"
refusal_name kind.FunctionList = codes "FUNCTION-LIST"
refusal_name kind.BadArgument = codes "BAD-ARGUMENT"
refusal_name kind.BadBound = codes "BAD-BOUND"
refusal_name kind.NumberTooWide = codes "NUMBER-TOO-WIDE"
refusal_name kind.MemberObject = codes "MEMBER-OBJECT"
refusal_name kind.StarNotAllowed = codes "STAR-NOT-ALLOWED"
refusal_name kind.TooDeep = codes "TOO-DEEP"
refusal_name kind.TooManyNodes = codes "TOO-MANY-NODES"

-- the kind and the place of what is wrong with an object
abbrev pub object_refusal_text : ObjectRefusal → List ℕ
object_refusal_text (literal.NoLiteral span) = codes "NO-LITERAL " ++ place_text span
object_refusal_text (literal.NumberTooWide span) = codes "NUMBER-TOO-WIDE " ++ place_text span
object_refusal_text (literal.TooDeep span) = codes "TOO-DEEP " ++ place_text span
object_refusal_text literal.Memory = []

-- what stands behind the place of a query
abbrev pub body_text : Line → List ℕ
body_text (Answered answer) = answer_text answer
body_text (Placed answer) = membership_text answer
body_text (Refused x) = codes "REFUSED " ++ refusal_name x.kind ++ codes " " ++ place_text x.place
body_text (NoObject x) = codes "REFUSED " ++ object_refusal_text x

-- the line at a place, ended by a newline
abbrev pub text_at : Span → Line → List ℕ
text_at span line = place_text span ++ codes " " ++ body_text line ++ 10 ∷ []

-- the line of a query, at its place
abbrev pub line_text : Query → Line → List ℕ
line_text query line = text_at query.form.span line

-- a refusal is a finding, and so is a query that costs too much; such a word inside a printed object does not count
abbrev pub is_finding : Line → Bool
is_finding (Answered Yes) = false
is_finding (Answered (No o)) = false
is_finding (Answered (Unsure o)) = false
is_finding (Answered TooLarge) = true
is_finding (Placed belongs.Inside) = false
is_finding (Placed belongs.Outside) = false
is_finding (Placed belongs.Depends) = false
is_finding (Placed belongs.TooLarge) = true
is_finding (Refused x) = true
is_finding (NoObject x) = true

-- the report on the queries of forms, under a budget
abbrev pub IsReport : ℕ → List Datum → Bool → List ℕ → Type 0
IsReport budget fs found report =
    AreReported (IsLineOf budget (environment fs)) line_text is_finding (environment fs).queries found report

-- ---- the line of a text that can't be read

-- the kind and the place of a fault of the reader
abbrev pub fault_body : ReadError → List ℕ
fault_body (errors.NotUtf8 span) = codes "NOT-UTF8 " ++ place_text span
fault_body (errors.BadToken span) = codes "BAD-TOKEN " ++ place_text span
fault_body (errors.StrayClose span) = codes "STRAY-CLOSE " ++ place_text span
fault_body (errors.Unclosed span) = codes "UNCLOSED " ++ place_text span
fault_body (errors.BadDot span) = codes "BAD-DOT " ++ place_text span
fault_body (errors.TooDeep span) = codes "TOO-DEEP " ++ place_text span
fault_body (errors.ZeroDenominator span) = codes "ZERO-DENOMINATOR " ++ place_text span
fault_body (errors.Label span) = codes "LABEL " ++ place_text span
fault_body errors.Memory = []

abbrev pub fault_text : ReadError → List ℕ
fault_text e = codes "FAULT " ++ fault_body e ++ 10 ∷ []

abbrev pub too_long_text : List ℕ
too_long_text = codes "FAULT TOO-LONG" ++ 10 ∷ []
