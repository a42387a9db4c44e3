-- A query that is refused spends nothing.
use Rattle.std.proofs.Common.{ℕ, ◌≡◌, ◌∙◌, refl, ap, inl, inr, []}
use Rattle.std.specs.Prelude.{Some, Result, Ok, Err, IfOk}
use Rattle.std.specs.declared.alloc.AllocError.{AllocError}
use Rattle.ls_object.specs.Universe.{LispObject}
use Rattle.ls_reader.specs.declared.datum.Datum.{Datum}
use Rattle.ls_spec.specs.Specifier.{Specifier}
use Rattle.ls_env.specs.Environments.{Environment}
use Rattle.ls_grammar.specs.declared.refusal.Refusal.{Refusal}
use Rattle.ls_grammar.specs.declared.refusal.Stop.{Stop}
use Rattle.ls_grammar.specs.declared.refusal.Stop.TheVariants as stop
use Rattle.ls_grammar.specs.declared.literal.ObjectRefusal.{ObjectRefusal}
use Rattle.ls_grammar.specs.declared.literal.ObjectRefusal.TheVariants as literal
use Rattle.ls_grammar.specs.Visiting.{Resolves, IsReason, refusal_of, earlier}
use Rattle.ls_grammar.specs.Literals.{IsLiteral, IsLiteralReason, refusal_in}
use Rattle.ls_cells.specs.Kept.{Entries}
use Rattle.subtypep_app.specs.declared.line.Line.{Line}
use Rattle.subtypep_app.specs.Queries.{Question, inclusion, membership, refusal_of_question, object_refusal_of, behind_object}
use Rattle.subtypep_app.specs.steps.Asking.{line_of_stop, line_of_no_object}
use Rattle.subtypep_app.specs.steps.Charging.{SpendsOn}
use Rattle.subtypep_app.proofs.ChargeLemmas.{spends_nothing}

module _ (budget : ℕ) (env : Environment) (kept : Entries) (steps : ℕ) where
  -- for one of its types
  pub refused_spends : (question : Question) (x : Refusal) → refusal_of_question env question ≡ Some x
      → SpendsOn budget env question kept kept steps steps
  refused_spends question x is = ([], inr (inl (x, is), refl), spends_nothing kept kept steps steps refl refl)

  -- for its object
  object_spends : (question : Question) (x : ObjectRefusal) → object_refusal_of question ≡ Some x
      → SpendsOn budget env question kept kept steps steps
  object_spends question x is = ([], inr (inr (x, is), refl), spends_nothing kept kept steps steps refl refl)

  -- the first of two types was not resolved
  pub first_stopped : (a b : Datum) (s : Stop) (r : Result Line AllocError) → IsReason env a s → line_of_stop s r
      → IfOk r (λ line. SpendsOn budget env (inclusion a b) kept kept steps steps)
  first_stopped a b stop.Memory (Ok line) why told = absurd told
  first_stopped a b (stop.Refused x) (Ok line) why told =
      refused_spends (inclusion a b) x (ap (λ o. earlier o (refusal_of env b)) why)
  first_stopped a b s (Err e) why told = tt

  -- the second was not
  pub second_stopped : (a b : Datum) (first : Specifier) (s : Stop) (r : Result Line AllocError) → Resolves env a first
      → IsReason env b s → line_of_stop s r → IfOk r (λ line. SpendsOn budget env (inclusion a b) kept kept steps steps)
  second_stopped a b first stop.Memory (Ok line) is why told = absurd told
  second_stopped a b first (stop.Refused x) (Ok line) is why told =
      refused_spends (inclusion a b) x (ap (λ o. earlier o (refusal_of env b)) is.unrefused ∙ why)
  second_stopped a b first s (Err e) is why told = tt

  -- the type of an object was not resolved
  pub type_stopped : (d a : Datum) (o : LispObject) (s : Stop) (r : Result Line AllocError) → IsLiteral d o
      → IsReason env a s → line_of_stop s r → IfOk r (λ line. SpendsOn budget env (membership d a) kept kept steps steps)
  type_stopped d a o stop.Memory (Ok line) is why told = absurd told
  type_stopped d a o (stop.Refused x) (Ok line) is why told =
      refused_spends (membership d a) x (ap (λ v. behind_object (refusal_in v) (refusal_of env a)) is ∙ why)
  type_stopped d a o s (Err e) is why told = tt

  -- the object was not read
  pub object_stopped : (d a : Datum) (x : ObjectRefusal) (r : Result Line AllocError) → IsLiteralReason d x
      → line_of_no_object x r → IfOk r (λ line. SpendsOn budget env (membership d a) kept kept steps steps)
  object_stopped d a literal.Memory (Ok line) why told = absurd told
  object_stopped d a (literal.NoLiteral at) (Ok line) why told = object_spends (membership d a) (literal.NoLiteral at) why
  object_stopped d a (literal.NumberTooWide at) (Ok line) why told = object_spends (membership d a) (literal.NumberTooWide at) why
  object_stopped d a (literal.TooDeep at) (Ok line) why told = object_spends (membership d a) (literal.TooDeep at) why
  object_stopped d a x (Err e) why told = tt
