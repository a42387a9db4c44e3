use Rattle.std.proofs.Common.{take}
use Rattle.std.specs.List.{AllByRecursion}
use Rattle.ls_spec.specs.Meaning.{specifier}
use Rattle.ls_spec.specs.steps.Fitting.{FitsIn}
use Rattle.ls_spec.proofs.+fits.Given as goal

abbrev pub invariant-fits::all_fit_in-loop-spec : goal.invariant-fits::all_fit_in-loop-spec
invariant-fits::all_fit_in-loop-spec l = AllByRecursion (λ s. FitsIn l.parents l.room (specifier s)) (take l.spec-index l.specs)
