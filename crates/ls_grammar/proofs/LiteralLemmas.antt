-- What is answered for a whole datum is the object that it writes out, or what is wrong with it.
use Rattle.std.proofs.Common.{◌≡◌, inl, inr, ◌⊎◌, Option, Some, None, Result, Ok, Err, refl, ap, sym, ◌∙◌}
use Rattle.std.specs.Prelude.{IfOk, IfErr}
use Rattle.ls_object.specs.declared.object.Object.{Object}
use Rattle.ls_object.specs.Universe.{LispObject, Structures, IsObject, IsPlain}
use Rattle.ls_object.specs.Meaning.{lisp_object}
use Rattle.ls_reader.specs.declared.datum.Datum.{Datum}
use Rattle.ls_grammar.specs.declared.literal.ObjectRefusal.{ObjectRefusal}
use Rattle.ls_grammar.specs.declared.literal.ObjectRefusal.TheVariants as refusal
use Rattle.ls_grammar.specs.Literals.{no_literal, too_wide, too_deep, Value, literal, IsLiteral, refusal_as, refusal_in, literal_refusal, IsLiteralOrIsRefused, IsLiteralReason, AnswersObject, RefusesObject}
use Rattle.ls_grammar.specs.steps.Making.{Tells}

-- ---- objects and refusals

either : (v : Value) → ((o : LispObject) × (v ≡ Ok o)) ⊎ ((x : ObjectRefusal) × (refusal_in v ≡ Some x))
either (Ok o) = inl (o, refl)
either (Err f) = inr (refusal_as f, refl)

-- a datum writes an object out, or has a refusal
pub is_literal_or_is_refused : (d : Datum) → IsLiteralOrIsRefused d
is_literal_or_is_refused d = either (literal d)

apart : (v : Value) (o : LispObject) (x : ObjectRefusal) → v ≡ Ok o → refusal_in v ≡ Some x → ⊥
apart v o x e f = let g : None ≡ Some x = sym (ap refusal_in e) ∙ f in cc

-- never both
pub one_of_both : (d : Datum) (o : LispObject) (x : ObjectRefusal) → IsLiteral d o → literal_refusal d ≡ Some x → ⊥
one_of_both d o x e f = apart (literal d) o x e f

no_want : (v : Value) → refusal_in v ≡ Some refusal.Memory → ⊥
no_want (Ok o) e = cc
no_want (Err (no_literal at)) e = cc
no_want (Err (too_wide at)) e = cc
no_want (Err (too_deep at)) e = cc

-- want of memory is no refusal of a datum
pub never_memory : (d : Datum) → literal_refusal d ≡ Some refusal.Memory → ⊥
never_memory d e = no_want (literal d) e

same_refusal : (o : Option ObjectRefusal) (x y : ObjectRefusal) → o ≡ Some x → o ≡ Some y → x ≡ y
same_refusal o x y p q = cc

same_object : (v : Value) (o p : LispObject) → v ≡ Ok o → v ≡ Ok p → o ≡ p
same_object v o p e f = cc

-- ---- answers

module _ (d : Datum) where
  -- an object that is answered is the one that the datum writes out
  pub literal_ok : (r : Result Object ObjectRefusal) → Tells (literal d) r → IfOk r (λ o. IsLiteral d (lisp_object o))
  literal_ok (Ok o) h = h.0
  literal_ok (Err x) h = tt

  -- it has no marks
  pub literal_plain : (r : Result Object ObjectRefusal) → Tells (literal d) r → IfOk r (λ o. IsPlain (lisp_object o))
  literal_plain (Ok o) h = h.1.plain
  literal_plain (Err x) h = tt

  -- it is an object, whatever the structure types are
  pub literal_object : (r : Result Object ObjectRefusal) → Tells (literal d) r → IfOk r (λ o. (structures : Structures) → IsObject structures (lisp_object o))
  literal_object (Ok o) h = h.1.object
  literal_object (Err x) h = tt

  -- a refusal that is answered is the first one
  pub literal_err : (r : Result Object ObjectRefusal) → Tells (literal d) r → IfErr r (IsLiteralReason d)
  literal_err (Ok o) h = tt
  literal_err (Err x) h = h

  -- what a datum writes out is answered, unless memory is wanting
  pub literal_answers : (r : Result Object ObjectRefusal) → Tells (literal d) r → (o : LispObject) → IsLiteral d o → AnswersObject o r
  literal_answers (Ok p) h o is = same_object (literal d) (lisp_object p) o h.0 is
  literal_answers (Err refusal.Memory) h o is = refl
  literal_answers (Err (refusal.NoLiteral at)) h o is = absurd (apart (literal d) o (refusal.NoLiteral at) is h)
  literal_answers (Err (refusal.NumberTooWide at)) h o is = absurd (apart (literal d) o (refusal.NumberTooWide at) is h)
  literal_answers (Err (refusal.TooDeep at)) h o is = absurd (apart (literal d) o (refusal.TooDeep at) is h)

  -- the first refusal is answered, unless memory is wanting
  pub literal_refuses : (r : Result Object ObjectRefusal) → Tells (literal d) r → (x : ObjectRefusal) → literal_refusal d ≡ Some x → RefusesObject x r
  literal_refuses (Ok p) h x is = apart (literal d) (lisp_object p) x h.0 is
  literal_refuses (Err refusal.Memory) h x is = inr refl
  literal_refuses (Err (refusal.NoLiteral at)) h x is = inl (same_refusal (literal_refusal d) (refusal.NoLiteral at) x h is)
  literal_refuses (Err (refusal.NumberTooWide at)) h x is = inl (same_refusal (literal_refusal d) (refusal.NumberTooWide at) x h is)
  literal_refuses (Err (refusal.TooDeep at)) h x is = inl (same_refusal (literal_refusal d) (refusal.TooDeep at) x h is)
