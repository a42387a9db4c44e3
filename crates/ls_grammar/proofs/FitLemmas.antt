-- A specifier that is answered is within the limits.
use Rattle.std.proofs.Common.{◌≡◌, ℕ, suc, ◌+◌, ◌≤◌, List, [], ◌∷◌, Result, Ok, Err, arith, rules, lit≤}
use Rattle.std.specs.Prelude.{IfOk}
use Rattle.std.specs.List.{AllByRecursion}
use Rattle.ls_object.specs.Universe.{Structures, IsStructureOf}
use Rattle.ls_reader.specs.declared.datum.Span.{Span}
use Rattle.ls_reader.specs.declared.datum.Datum.{Datum}
use Rattle.ls_tables.specs.declared.name.Builtin.{Builtin}
use Rattle.ls_tables.specs.declared.name.Builtin.TheVariants as name
use Rattle.ls_spec.specs.declared.spec.Spec.{Spec}
use Rattle.ls_spec.specs.Specifier.{Specifier, Specifiers}
use Rattle.ls_spec.specs.Meaning.{specifier, specifiers_of}
use Rattle.ls_spec.specs.Builtins.{expansion}
use Rattle.ls_spec.specs.Fits.{HasSmallNumbers, HaveSmallNumbers, HasKnownNames, HaveKnownNames, depth, greatest_depth, Fits}
use Rattle.ls_env.specs.Environments.{Environment, structures_of}
use Rattle.ls_env.proofs.StructureLemmas.{named_is_type}
use Rattle.ls_grammar.specs.declared.refusal.Stop.{Stop}
use Rattle.ls_grammar.specs.BuiltinLevels.{built_atom}
use Rattle.ls_grammar.specs.steps.Answering.{Steps}
use Rattle.ls_grammar.proofs.WholeLemmas.{whole_outcome, denotes_in}
use Rattle.ls_grammar.proofs.KeptLemmas.{OfKnown, IsKept, kept_in}

module _ (structures : Structures) where
  -- at most four levels deeper than the levels that denote it, by what built-in names expand to; with small numbers
  -- and known structure names
  abbrev IsFitIn : ℕ → Specifier → Type 0
  IsFitIn n s = HasKnownNames structures s × HasSmallNumbers s × (depth s ≤ n + 4)

  abbrev AreFitIn : ℕ → Specifiers → Type 0
  AreFitIn n ss = HaveKnownNames structures ss × HaveSmallNumbers ss × (greatest_depth ss ≤ n + 4)

  fit_all : (n : ℕ) (ss : List Specifier) → AllByRecursion (IsFitIn n) ss → AreFitIn n (specifiers_of ss)
  fit_all n [] h = (tt, tt, omega arith)
  fit_all n (s ∷ ss) h = let rest = fit_all n ss h.1 in ((h.0.0, rest.0), (h.0.1, rest.1), omega (arith, h.0.2, rest.2))

  fit_expansion : (b : Builtin) → HasKnownNames structures (expansion b) × HasSmallNumbers (expansion b) × (depth (expansion b) ≤ 4)
  fit_expansion name.Atom = (search rules, search rules, lit≤ tt)
  fit_expansion _ = (search rules, search rules, lit≤ tt)

  deeper : (n : ℕ) (b : Builtin) → IsFitIn (suc n) (expansion b)
  deeper n b = let fit = fit_expansion b in (fit.0, fit.1, omega (arith, fit.2))

  fit_atom : (n : ℕ) (at : Span) (b : Builtin) → OfKnown (IsFitIn (suc n)) (built_atom at b)
  fit_atom n at name.Satisfies = tt
  fit_atom n at name.And = tt
  fit_atom n at name.Or = tt
  fit_atom n at name.Not = tt
  fit_atom n at name.Member = tt
  fit_atom n at name.Eql = tt
  fit_atom n at name.Mod = tt
  fit_atom n at name.Values = tt
  fit_atom n at name.Star = tt
  fit_atom n at b = deeper n b

  -- the levels keep specifiers within the limits
  kept : IsKept (IsStructureOf structures) IsFitIn
  kept = record {
    structure = λ n s h. (h, tt, omega arith);
    predicate = λ n p. (tt, tt, omega arith);
    range = λ n k lo hi l h. (tt, (l, h), omega arith);
    atom = fit_atom;
    array = λ n simple dims h. (tt, h, omega arith);
    vector = λ n b simple length h. (let fit = fit_expansion b in (fit.0, (fit.1, (lit≤ tt, (h, tt))), omega (arith, fit.2)));
    string = λ n simple length h. (tt, h, omega arith);
    point = λ n p small. (tt, small, omega arith);
    all = λ n ss h. (let fit = fit_all n ss h in (fit.0, fit.1, omega (arith, fit.2)));
    some = λ n ss h. (let fit = fit_all n ss h in (fit.0, fit.1, omega (arith, fit.2)));
    none = λ n s h. (h.0, h.1, omega (arith, h.2));
    any = λ n. (tt, tt, omega arith);
    pair = λ n a b g h. ((g.0, h.0), (g.1, h.1), omega (arith, g.2, h.2));
    element = λ n e simple dims small h. (h.0, (h.1, small), omega (arith, h.2));
    deeper = λ n s h. (h.0, h.1, omega (arith, h.2));
  }

fit_whole : (env : Environment) (d : Datum) (x : Specifier × ℕ) → whole_outcome env d ≡ Ok x → Fits (structures_of env) x.0
fit_whole env d x e =
    let structures = structures_of env in
    let fit = kept_in (IsStructureOf structures) (IsFitIn structures) (kept structures) env (named_is_type env) 256 d x.0 (denotes_in env d x e) in
    (fit.0, (fit.1, omega (arith, fit.2)))

-- a specifier that is answered fits
pub fits_of : (env : Environment) (d : Datum) (r : Result Spec Stop) (left : ℕ) → Steps specifier r left (whole_outcome env d)
    → IfOk r (λ s. Fits (structures_of env) (specifier s))
fits_of env d (Ok s) left h = fit_whole env d (specifier s, left) h
fits_of env d (Err e) left h = tt
