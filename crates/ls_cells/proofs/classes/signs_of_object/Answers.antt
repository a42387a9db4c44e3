use Rattle.std.proofs.Common.{◌∙◌, ◌<◌, ◌≤◌, arith, ap, sym, subst, length, get_or, map, All}
use Rattle.std.proofs.lemmas.List.{get_or_default, length-set}
use Rattle.ls_object.specs.Universe.{plain}
use Rattle.ls_object.specs.Meaning.{lisp_object}
use Rattle.ls_spec.specs.Meaning.{specifier}
use Rattle.ls_cells.specs.Cells.{signs_at}
use Rattle.ls_cells.proofs.IndexLemmas.{found_right, set_right, tested, all_right, signs_long}
use Rattle.ls_cells.proofs.PointLemmas.{index_apart}
use Rattle.ls_cells.proofs.classes.signs_of_object.Goals as goal

pub found-requires-clause-below : goal.found-requires-clause-below
found-requires-clause-below g c = λ q i e. (c.requires.index.named q i e).0

pub found-requires-clause-apart : goal.found-requires-clause-apart
found-requires-clause-apart g c = index_apart (map specifier c.args.atoms.now) (length c.args.atoms.now) c.args.index.now c.requires.index

pub loop-place-init : goal.loop-place-init
loop-place-init g c = record {
  long = c.in_ok-signs.ensures.long;
  right = λ structures learnt over known.
      found_right learnt (map specifier c.args.atoms.now) c.args.index.now (length c.args.atoms.now) (length c.args.atoms.now) (lisp_object c.args.object.now) c.in_ok-signs.signs c.requires.index c.in_ok-signs.ensures;
}

pub bounds-atoms-place : goal.bounds-atoms-place
bounds-atoms-place g c = subst (All (λ i. i < length c.args.atoms.now)) (sym c.others-place-items.ensures) c.requires.index.others c.loop-place.place-index 0 c.loop-place-test.true

pub set-requires : goal.set-requires
set-requires g c =
    let l = subst (All (λ i. i < length c.args.atoms.now)) (sym c.others-place-items.ensures) c.requires.index.others c.loop-place.place-index 0 c.loop-place-test.true in
    omega (arith, l, c.loop-place.invariant.long)

pub loop-place-preserved : goal.loop-place-preserved
loop-place-preserved g c =
    let place = get_or c.others-place-items.result.now c.loop-place.place-index 0 in
    let o = plain (lisp_object c.args.object.now) in
    let l = subst (All (λ i. i < length c.args.atoms.now)) (sym c.others-place-items.ensures) c.requires.index.others c.loop-place.place-index 0 c.loop-place-test.true in
    let k = subst (λ xs. c.loop-place.place-index < length xs) c.others-place-items.ensures c.loop-place-test.true in
    record {
      long = ap length c.set.ensures ∙ length-set c.loop-place.signs place c.holds.result ∙ c.loop-place.invariant.long;
      right = λ structures learnt over known i m.
          set_right c.args.index.now.others c.loop-place.place-index place c.loop-place.signs c.set.new.self (signs_at learnt (map specifier c.args.atoms.now) o) c.holds.result c.set.ensures
          (omega (arith, l, c.loop-place.invariant.long))
          (ap (λ xs. get_or xs c.loop-place.place-index 0) c.others-place-items.ensures ∙ get_or_default c.args.index.now.others c.loop-place.place-index 0 place k)
          (tested structures learnt (g.R.Regions.IsIn structures) (c.requires.meaning structures) c.args.atoms.now place c.index-atoms-place.result o c.holds.result l c.index-atoms-place.is known
          (c.holds.ensures structures over c.requires.class))
          i (c.loop-place.invariant.right structures learnt over known i m);
    }

pub returns : goal.returns
returns g c = record {
  long = c.loop-place.invariant.long;
  signs = λ structures learnt over known.
      let right = signs_at learnt (map specifier c.args.atoms.now) (plain (lisp_object c.args.object.now)) in
      let long = signs_long learnt c.args.atoms.now (plain (lisp_object c.args.object.now)) in
      all_right c.args.index.now.others c.loop-place.place-index c.loop-place.signs right
      (subst (λ xs. length xs ≤ c.loop-place.place-index) c.others-place-items.ensures c.loop-place-test.false)
      (c.loop-place.invariant.long ∙ sym long)
      (λ i m. c.loop-place.invariant.right structures learnt over known i (omega (arith, m, long)));
}
