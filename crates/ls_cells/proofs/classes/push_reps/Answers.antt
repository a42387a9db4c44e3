use Rattle.std.proofs.Common.{arith, ap, sym, subst, length, length-append, map, List, ◌∷◌, [], All}
use Rattle.std.specs.List.{AllByRecursion}
use Rattle.ls_object.specs.Universe.{Structures, IsObject}
use Rattle.ls_object.specs.Meaning.{lisp_object}
use Rattle.ls_spec.specs.declared.spec.Spec.{Spec}
use Rattle.ls_spec.specs.Meaning.{specifier}
use Rattle.ls_spec.specs.Regions.{IsPlainOf}
use Rattle.ls_spec.specs.Truth.{Learnt, IsLearnt}
use Rattle.ls_spec.proofs.AlikeLemmas.{AllByRecursion-front, AllByRecursion-back}
use Rattle.ls_cells.specs.Rows.{AreLong}
use Rattle.ls_cells.specs.Cells.{AddsRows}
use Rattle.ls_cells.specs.steps.Classes.{IsItself}
use Rattle.ls_cells.proofs.ClassLemmas.{class_step, class_done}
use Rattle.ls_cells.proofs.IndexLemmas.{same_atoms}
use Rattle.ls_cells.proofs.classes.push_reps.Goals as goal

pub push_object-requires-clause-index : goal.push_object-requires-clause-index
push_object-requires-clause-index g c = same_atoms c.as_slice-these.result.now c.args.atoms.now c.args.index.now (sym c.as_slice-these.ensures) c.requires.index

pub loop-object-preserved : goal.loop-object-preserved
loop-object-preserved g c =
    let atoms = c.args.atoms.now in
    let last = c.in-Some.object in
    let after = c.pop.new.self in
    let object = λ (structures : Structures) (over : g.R.Regions.IsOver c.args.regions.now structures).
    (AllByRecursion-back (λ r. IsObject structures (lisp_object r)) after (last ∷ []) (subst (AllByRecursion (λ r. IsObject structures (lisp_object r))) c.in-Some.ensures (c.loop-object.invariant.objects structures over))).0 in
    let adds = λ (structures : Structures) (learnt : Learnt) (over : g.R.Regions.IsOver c.args.regions.now structures) (known : All (IsLearnt structures learnt) (map specifier atoms)).
    (subst (λ (xs : List Spec). All (IsLearnt structures learnt) (map specifier xs) → AddsRows structures learnt (map specifier xs) (IsItself (lisp_object last)) c.loop-object.rows c.push_object.new.rows)
    c.as_slice-these.ensures (c.in_ok-push_object.ensures.rows structures learnt over (object structures over))) known in
    record {
      rises = omega (arith, c.loop-object.invariant.rises, c.in_ok-push_object.ensures.rises);
      most = omega (arith, c.in_ok-push_object.ensures.most, c.loop-object.invariant.most, ap length c.in-Some.ensures, length-append after (last ∷ []));
      fewer = omega (arith, c.loop-object.invariant.fewer, c.in_ok-push_object.ensures.fewer);
      long = λ h. (subst (λ (xs : List Spec). AreLong (length xs) c.loop-object.rows → AreLong (length xs) c.push_object.new.rows) c.as_slice-these.ensures c.in_ok-push_object.ensures.long) (c.loop-object.invariant.long h);
      plain = AllByRecursion-front (λ r. IsPlainOf (g.R.Regions.IsOfClass c.args.regions.now) (lisp_object r)) after (last ∷ [])
          (subst (AllByRecursion (λ r. IsPlainOf (g.R.Regions.IsOfClass c.args.regions.now) (lisp_object r))) c.in-Some.ensures c.loop-object.invariant.plain);
      objects = λ structures over. AllByRecursion-front (λ r. IsObject structures (lisp_object r)) after (last ∷ [])
          (subst (AllByRecursion (λ r. IsObject structures (lisp_object r))) c.in-Some.ensures (c.loop-object.invariant.objects structures over));
      kept = λ structures learnt over known signs h. (adds structures learnt over known).kept signs (c.loop-object.invariant.kept structures learnt over known signs h);
      each = λ structures learnt over known h. (adds structures learnt over known).each (c.loop-object.invariant.each structures learnt over known h);
      all = λ structures learnt over known o is_object of_class.
          class_step structures learnt (g.R.Regions.IsIn structures) (c.requires.meaning structures) atoms c.loop-object.reps after last o c.loop-object.rows c.push_object.new.rows c.in-Some.ensures
          known (c.requires.flat o of_class) (adds structures learnt over known) (object structures over)
          (AllByRecursion-back (λ r. IsPlainOf (g.R.Regions.IsOfClass c.args.regions.now) (lisp_object r)) after (last ∷ [])
          (subst (AllByRecursion (λ r. IsPlainOf (g.R.Regions.IsOfClass c.args.regions.now) (lisp_object r))) c.in-Some.ensures c.loop-object.invariant.plain)).0.0 (c.loop-object.invariant.all structures learnt over known o is_object of_class);
    }

pub returns : goal.returns
returns g c = record {
  rises = c.loop-object.invariant.rises;
  most = omega (arith, c.loop-object.invariant.most, c.in_ok-reps.ensures.count);
  fewer = c.loop-object.invariant.fewer;
  long = c.loop-object.invariant.long;
  rows = λ structures learnt over known. record {
    kept = c.loop-object.invariant.kept structures learnt over known;
    each = c.loop-object.invariant.each structures learnt over known;
    all = λ o object of_class.
        class_done structures learnt (g.R.Regions.IsIn structures) (c.requires.meaning structures) c.args.atoms.now c.loop-object.reps o c.loop-object.rows c.in_default.ensures.0
        (c.loop-object.invariant.all structures learnt over known o object of_class);
  };
}
