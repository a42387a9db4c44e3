-- What the lines of a report say of the queries.
use Rattle.std.specs.Prelude.{◌≡◌, ℕ, ◌<◌, ◌≤◌, ◌⊎◌, ◌↔◌, List, length, slice_get, encode_utf8_all, Option, Some}
use Rattle.ls_io.specs.Moves.{Took}
use Rattle.ls_object.specs.declared.object.Object.{Object}
use Rattle.ls_object.specs.Universe.{LispObject, Structures}
use Rattle.ls_object.specs.Meaning.{lisp_object}
use Rattle.ls_reader.specs.declared.datum.Datum.{Datum}
use Rattle.ls_spec.specs.Specifier.{Specifier}
use Rattle.ls_spec.specs.Membership.{Belongs}
use Rattle.ls_spec.specs.Approximation.{low, high, HasNoPredicate}
use Rattle.ls_spec.specs.Inclusion.{IsIncluded, IsWitness, IsUnsureWitness}
use Rattle.ls_env.specs.declared.query.Query.{Query}
use Rattle.ls_env.specs.Environments.{Environment, environment, structures_of}
use Rattle.ls_grammar.specs.declared.refusal.Refusal.{Refusal}
use Rattle.ls_grammar.specs.declared.literal.ObjectRefusal.{ObjectRefusal}
use Rattle.ls_grammar.specs.Visiting.{Resolves}
use Rattle.ls_grammar.specs.Literals.{IsLiteral}
use Rattle.ls_decide.specs.declared.answer.Answer.TheVariants.{Yes, No, Unsure, TooLarge}
use Rattle.ls_decide.specs.declared.answer.Belongs.TheVariants as belongs
use Rattle.ls_lists.specs.Costs.{pair_cost, type_cost}
use Rattle.subtypep_app.specs.declared.line.Line.{Line}
use Rattle.subtypep_app.specs.declared.line.Line.TheVariants.{Answered, Placed, Refused, NoObject}
use Rattle.subtypep_app.specs.Queries.{Question, inclusion, membership, question_of, refusal_of_question, object_refusal_of}
use Rattle.subtypep_app.specs.Report.{line_text, lines_text}

-- the line has an object of the first type outside the second
abbrev pub HasWitness : Structures → Specifier → Specifier → Line → Type 0
HasWitness structures a b line =
    (o : Object) × (line ≡ Answered (No o)) × IsWitness structures a b (lisp_object o)

-- the line is unsure, and has an object that shows why
abbrev pub HasUnsureWitness : Structures → Specifier → Specifier → Line → Type 0
HasUnsureWitness structures a b line =
    (o : Object) × (line ≡ Answered (Unsure o)) × IsUnsureWitness structures a b (lisp_object o)

-- The line is TooLarge exactly where the cost of the pair is more than the budget. Else it says Yes exactly where the
-- first type is included in the second, and otherwise it has a witness, or it is unsure, which it never is without
-- predicates.
pub record IsDecided (structures : Structures) (a b : Specifier) (budget : ℕ) (line : Line) : Type 0 where
  pub too_large : (line ≡ Answered TooLarge) ↔ (budget < pair_cost a b)
  pub yes : pair_cost a b ≤ budget → (line ≡ Answered Yes) ↔ IsIncluded structures a b
  pub no : pair_cost a b ≤ budget → (IsIncluded structures a b → ⊥)
      → HasWitness structures a b line ⊎ HasUnsureWitness structures a b line
  pub sure : pair_cost a b ≤ budget → HasNoPredicate a → HasNoPredicate b → (IsIncluded structures a b → ⊥)
      → HasWitness structures a b line

-- The line is TooLarge exactly where the cost of the type is more than the budget. Else it says Inside exactly where
-- the object is in the lower approximation of the type, Outside exactly where it is not in the upper one, and Depends
-- exactly where it is between them. Without predicates it is Inside exactly where the object belongs, and else Outside.
pub record IsPlaced (structures : Structures) (o : LispObject) (s : Specifier) (budget : ℕ) (line : Line) : Type 0 where
  pub too_large : (line ≡ Placed belongs.TooLarge) ↔ (budget < type_cost s)
  pub inside : type_cost s ≤ budget → (line ≡ Placed belongs.Inside) ↔ Belongs structures (low s) o
  pub outside : type_cost s ≤ budget → (line ≡ Placed belongs.Outside) ↔ (Belongs structures (high s) o → ⊥)
  pub depends : type_cost s ≤ budget
      → (line ≡ Placed belongs.Depends) ↔ ((Belongs structures (low s) o → ⊥) × Belongs structures (high s) o)
  pub belongs_so : type_cost s ≤ budget → HasNoPredicate s → (line ≡ Placed belongs.Inside) ↔ Belongs structures s o
  pub differs : type_cost s ≤ budget → HasNoPredicate s
      → (line ≡ Placed belongs.Outside) ↔ (Belongs structures s o → ⊥)

-- A line decides the query where both of its types resolve, or its object is written out and its type resolves. Where
-- it is refused, the line says why.
pub record IsLineFor (budget : ℕ) (env : Environment) (question : Question) (line : Line) : Type 0 where
  pub decided : (a b : Datum) (s t : Specifier) → question ≡ inclusion a b → Resolves env a s → Resolves env b t
      → IsDecided (structures_of env) s t budget line
  pub placed : (d a : Datum) (o : LispObject) (s : Specifier) → question ≡ membership d a → IsLiteral d o
      → Resolves env a s → IsPlaced (structures_of env) o s budget line
  pub refused : (x : Refusal) → refusal_of_question env question ≡ Some x → line ≡ Refused x
  pub no_object : (x : ObjectRefusal) → object_refusal_of question ≡ Some x → line ≡ NoObject x

-- What the sink took is a line for each query of the forms, in order, and each line is for its query.
pub record AllDecided (budget : ℕ) (fs : List Datum) (before now : Option (List ℕ)) : Type 0 where
  pub lines : List Line
  pub taken : Took before now (encode_utf8_all (lines_text line_text (environment fs).queries lines))
  pub count : length lines ≡ length (environment fs).queries
  pub each : (i : ℕ) (query : Query)
      → slice_get (environment fs).queries i ≡ Some query
      → (line : Line) × (slice_get lines i ≡ Some line) × IsLineFor budget (environment fs) (question_of query) line
