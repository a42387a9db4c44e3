use Rattle.std.proofs.Common.{refl, true≢false, sym, ◌∙◌}
use Rattle.ls_spec.specs.Meaning.{specifier}
use Rattle.ls_spec.specs.steps.Fitting.{FitsIn}
use Rattle.ls_spec.proofs.ListLemmas.{AllByRecursion-more, AllByRecursion-whole}
use Rattle.ls_spec.proofs.FitsLemmas.{FitIn-each, FitIn-not}
use Rattle.ls_spec.proofs.+fits.Goals as goal

pub fits::all_fit_in-loop-spec-preserved : goal.fits::all_fit_in-loop-spec-preserved
fits::all_fit_in-loop-spec-preserved t c =
    AllByRecursion-more (λ s. FitsIn c.args.parents.now c.args.room (specifier s)) c.args.specs.now c.loop-spec.spec-index c.spec-item.result c.loop-spec-test.true c.spec-item.is c.loop-spec.invariant (c.fits_in.ensures.0 c.if-not-fits_in.false)

pub fits::all_fit_in-returns-then-not-fits_in : goal.fits::all_fit_in-returns-then-not-fits_in
fits::all_fit_in-returns-then-not-fits_in t c =
    FitIn-not c.args.parents.now c.args.room c.args.specs.now c.loop-spec.spec-index c.spec-item.result c.loop-spec-test.true c.spec-item.is (λ h. true≢false (sym (c.fits_in.ensures.1 h) ∙ c.if-not-fits_in.true))

pub fits::all_fit_in-returns : goal.fits::all_fit_in-returns
fits::all_fit_in-returns t c =
    (λ _. FitIn-each c.args.parents.now c.args.room c.args.specs.now (AllByRecursion-whole (λ s. FitsIn c.args.parents.now c.args.room (specifier s)) c.args.specs.now c.loop-spec.spec-index c.loop-spec-test.false c.loop-spec.invariant), λ _. refl)
