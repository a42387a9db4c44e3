-- What is answered is the specifier that the datum resolves to, or the first thing that is wrong with it.
use Rattle.std.proofs.Common.{◌≡◌, ℕ, inl, inr, Option, Some, None, Result, Ok, Err, refl, subst}
use Rattle.std.specs.Prelude.{IfOk, IfErr}
use Rattle.ls_reader.specs.declared.datum.Datum.{Datum}
use Rattle.ls_spec.specs.declared.spec.Spec.{Spec}
use Rattle.ls_spec.specs.Specifier.{Specifier}
use Rattle.ls_spec.specs.Meaning.{specifier}
use Rattle.ls_env.specs.Environments.{Environment}
use Rattle.ls_grammar.specs.declared.refusal.Refusal.{Refusal}
use Rattle.ls_grammar.specs.declared.refusal.Stop.{Stop}
use Rattle.ls_grammar.specs.declared.refusal.Stop.TheVariants as stop
use Rattle.ls_grammar.specs.Denoting.{DenotesIn}
use Rattle.ls_grammar.specs.steps.Running.{Outcome, outcome}
use Rattle.ls_grammar.specs.steps.Answering.{Steps}
use Rattle.ls_grammar.specs.Visiting.{deepest, largest, visits, Resolves, refusal_of, ResolvesOrIsRefused, IsReason, AnswersWith, RefusesWith}
use Rattle.ls_grammar.proofs.AgreementLemmas.{Follows, agree}
use Rattle.ls_grammar.proofs.MeaningLemmas.{Means, means_outcome, denotes_one}

-- the outcome of a whole datum
abbrev pub whole_outcome : Environment → Datum → Outcome Specifier
whole_outcome env d = outcome env deepest d largest

follows : (env : Environment) (d : Datum) → Follows (visits env deepest 1 d) largest (whole_outcome env d)
follows env d = agree env deepest 1 refl d largest

-- the specifier of an outcome is denoted by as many levels as there may be
pub denotes_in : (env : Environment) (d : Datum) (x : Specifier × ℕ) → whole_outcome env d ≡ Ok x → DenotesIn env deepest d x.0
denotes_in env d x e = subst (Means (DenotesIn env deepest d)) e (means_outcome env deepest d largest)

resolves : (env : Environment) (d : Datum) (x : Specifier × ℕ) → whole_outcome env d ≡ Ok x → Resolves env d x.0
resolves env d x e =
    let f = subst (Follows (visits env deepest 1 d) largest) e (follows env d) in
    record { unrefused = f.0; denotes = (deepest, denotes_in env d x e) }

refuses : (env : Environment) (d : Datum) (x : Refusal) → whole_outcome env d ≡ Err x → refusal_of env d ≡ Some x
refuses env d x e = subst (Follows (visits env deepest 1 d) largest) e (follows env d)

-- a datum resolves, or has a refusal
pub resolves_or_is_refused : (env : Environment) (d : Datum) → ResolvesOrIsRefused env d
resolves_or_is_refused env d = by_outcome (whole_outcome env d) refl
  where
    by_outcome : (r : Outcome Specifier) → whole_outcome env d ≡ r → ResolvesOrIsRefused env d
    by_outcome (Ok x) e = inl (x.0, resolves env d x e)
    by_outcome (Err x) e = inr (x, refuses env d x e)

apart : (o : Option Refusal) (x : Refusal) → o ≡ None → o ≡ Some x → ⊥
apart o x p q = cc

same_refusal : (o : Option Refusal) (x y : Refusal) → o ≡ Some x → o ≡ Some y → x ≡ y
same_refusal o x y p q = cc

module _ (env : Environment) (d : Datum) where
  -- a specifier that is answered is the one that the datum resolves to
  pub ok_of : (r : Result Spec Stop) (left : ℕ) → Steps specifier r left (whole_outcome env d) → IfOk r (λ s. Resolves env d (specifier s))
  ok_of (Ok s) left h = resolves env d (specifier s, left) h
  ok_of (Err e) left h = tt

  -- a refusal that is answered is the first one
  pub err_of : (r : Result Spec Stop) (left : ℕ) → Steps specifier r left (whole_outcome env d) → IfErr r (IsReason env d)
  err_of (Ok s) left h = tt
  err_of (Err stop.Memory) left h = tt
  err_of (Err (stop.Refused x)) left h = refuses env d x h

  -- what a datum resolves to is answered, unless memory is wanting
  pub answers_of : (r : Result Spec Stop) (left : ℕ) → Steps specifier r left (whole_outcome env d) → (s : Specifier) → Resolves env d s → AnswersWith s r
  answers_of (Ok t) left h s is = denotes_one env d (specifier t) s (resolves env d (specifier t, left) h).denotes is.denotes
  answers_of (Err stop.Memory) left h s is = tt
  answers_of (Err (stop.Refused x)) left h s is = apart (refusal_of env d) x is.unrefused (refuses env d x h)

  -- the first refusal is answered, unless memory is wanting
  pub refuses_of : (r : Result Spec Stop) (left : ℕ) → Steps specifier r left (whole_outcome env d) → (x : Refusal) → refusal_of env d ≡ Some x → RefusesWith x r
  refuses_of (Ok t) left h x is = apart (refusal_of env d) x (resolves env d (specifier t, left) h).unrefused is
  refuses_of (Err stop.Memory) left h x is = tt
  refuses_of (Err (stop.Refused y)) left h x is = same_refusal (refusal_of env d) y x (refuses env d y h) is
