use Rattle.std.proofs.Common.{sym, subst}
use Rattle.std.specs.List.{AllByRecursion, Contains}
use Rattle.std.proofs.lemmas.Bool.Decides.{when_true, when_false}
use Rattle.ls_object.specs.Universe.{plain, IsObject}
use Rattle.ls_object.specs.Meaning.{lisp_object}
use Rattle.ls_spec.specs.Regions.{IsInFirstOnly, IsInSecondIfFirst, IsPlainOf, AreRepresentatives}
use Rattle.ls_spec.proofs.ListLemmas.{AllByRecursion-more, AllByRecursion-whole, AllByRecursion-contains}
use Rattle.ls_spec.proofs.RegionsLemmas.{IsIncludedWithin-passes, IsIncludedWithin-outside}
use Rattle.ls_spec.proofs.regions.is_included_within.Goals as goal

pub loop-object-preserved : goal.loop-object-preserved
loop-object-preserved g c = λ structures over. AllByRecursion-more
    (λ r. g.R.Regions.IsOfClass c.args.regions.now (lisp_object r) → IsInSecondIfFirst (g.R.Regions.IsIn structures) c.args.first.now c.args.second.now (plain (lisp_object r)))
    c.as_slice-object-items.result.now c.loop-object.object-index c.object-item.result c.loop-object-test.true c.object-item.is (c.loop-object.invariant structures over)
    (λ covered. when_false _ _ c.if-is_outside.false (c.is_outside.ensures structures over covered))

pub returns : goal.returns
returns g c = λ structures over.
    let list = c.as_slice-object-items.result.now in
    let whole = AllByRecursion-whole
    (λ r. g.R.Regions.IsOfClass c.args.regions.now (lisp_object r) → IsInSecondIfFirst (g.R.Regions.IsIn structures) c.args.first.now c.args.second.now (plain (lisp_object r)))
    list c.loop-object.object-index c.loop-object-test.false (c.loop-object.invariant structures over) in
    IsIncludedWithin-passes structures (g.R.Regions.IsOfClass c.args.regions.now) (g.R.Regions.IsIn structures) c.args.atoms.now c.args.first.now c.args.second.now list c.requires.first c.requires.second
    (subst (AllByRecursion (λ r. IsPlainOf (g.R.Regions.IsOfClass c.args.regions.now) (lisp_object r))) (sym c.as_slice-object-items.ensures) c.in_ok-reps.ensures.plain)
    (subst (AreRepresentatives structures (g.R.Regions.IsOfClass c.args.regions.now) (g.R.Regions.IsIn structures) c.args.atoms.now) (sym c.as_slice-object-items.ensures) (c.in_ok-reps.ensures.law structures over))
    whole

pub returns-then-is_outside : goal.returns-then-is_outside
returns-then-is_outside g c = λ structures over.
    let list = c.as_slice-object-items.result.now in
    let item = c.object-item.result in
    let there : Contains list item = (c.loop-object.object-index, c.loop-object-test.true, sym c.object-item.is) in
    let objects = subst (AllByRecursion (λ r. IsObject structures (lisp_object r))) (sym c.as_slice-object-items.ensures) (c.in_ok-reps.ensures.objects structures over) in
    let plains = subst (AllByRecursion (λ r. IsPlainOf (g.R.Regions.IsOfClass c.args.regions.now) (lisp_object r))) (sym c.as_slice-object-items.ensures) c.in_ok-reps.ensures.plain in
    let covered = (AllByRecursion-contains (λ r. IsPlainOf (g.R.Regions.IsOfClass c.args.regions.now) (lisp_object r)) list item plains there).1 in
    IsIncludedWithin-outside structures (g.R.Regions.IsOfClass c.args.regions.now) (g.R.Regions.IsIn structures) c.args.atoms.now c.args.first.now c.args.second.now (lisp_object item)
    (AllByRecursion-contains (λ r. IsObject structures (lisp_object r)) list item objects there)
    covered
    (when_true
    (IsInFirstOnly (g.R.Regions.IsIn structures) c.args.first.now c.args.second.now (plain (lisp_object item)))
    (IsInSecondIfFirst (g.R.Regions.IsIn structures) c.args.first.now c.args.second.now (plain (lisp_object item)))
    c.if-is_outside.true (c.is_outside.ensures structures over covered))
