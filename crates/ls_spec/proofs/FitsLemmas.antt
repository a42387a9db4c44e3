-- That each part of a specifier fits.
use Rattle.std.proofs.Common.{ℕ, ◌≡◌, ◌<◌, List, [], ◌∷◌, length, get_or, false, Decides, arith}
use Rattle.std.specs.List.{AllByRecursion}
use Rattle.ls_object.specs.Universe.{Structures}
use Rattle.ls_spec.specs.declared.spec.Spec.{Spec}
use Rattle.ls_spec.specs.Meaning.{specifier, specifiers}
use Rattle.ls_spec.specs.steps.Fitting.{FitsIn, FitIn}
use Rattle.ls_spec.proofs.ListLemmas.{AllByRecursion-contains}

-- the specifiers of a list fit where each of them does
pub FitIn-each : (structures : Structures) (room : ℕ) (specs : List Spec) → AllByRecursion (λ s. FitsIn structures room (specifier s)) specs → FitIn structures room (specifiers specs)
FitIn-each structures room [] h = (tt, tt, omega arith)
FitIn-each structures room (s ∷ ss) h =
    let rest = FitIn-each structures room ss h.1 in
    ((h.0.0, rest.0), (h.0.1, rest.1), omega (arith, h.0.2, rest.2))

pub each-FitIn : (structures : Structures) (room : ℕ) (specs : List Spec) → FitIn structures room (specifiers specs) → AllByRecursion (λ s. FitsIn structures room (specifier s)) specs
each-FitIn structures room [] h = tt
each-FitIn structures room (s ∷ ss) h = ((h.0.0, h.1.0, omega (arith, h.2)), each-FitIn structures room ss (h.0.1, h.1.1, omega (arith, h.2)))

-- where one doesn't, they don't
pub FitIn-not : (structures : Structures) (room : ℕ) (specs : List Spec) (i : ℕ) (s : Spec) → i < length specs → s ≡ get_or specs i s → (FitsIn structures room (specifier s) → ⊥) → Decides false (FitIn structures room (specifiers specs))
FitIn-not structures room specs i s l e h = (
  λ f. cc,
  λ all. absurd (h (AllByRecursion-contains (λ s. FitsIn structures room (specifier s)) specs s (each-FitIn structures room specs all) (i, l, (let f : get_or specs i s ≡ s = cc in f)))),
)
