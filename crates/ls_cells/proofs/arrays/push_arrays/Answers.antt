use Rattle.std.proofs.Common.{◌≡◌, ◌∙◌, arith, ap, sym, subst, length, length-append, map, inl, List, ◌∷◌, [], ℕ}
use Rattle.std.specs.List.{AllByRecursion}
use Rattle.std.proofs.lemmas.List.{length-map}
use Rattle.std.proofs.lemmas.List.Elements.{recursion_from_All}
use Rattle.std.proofs.lemmas.Result.{on_ok_weaker}
use Rattle.ls_object.specs.Universe.{Structures, IsObject}
use Rattle.ls_object.specs.Meaning.{lisp_object}
use Rattle.ls_spec.specs.Meaning.{specifier}
use Rattle.ls_spec.specs.Regions.{IsPlainOf}
use Rattle.ls_spec.specs.Specifier.{Specifier}
use Rattle.ls_spec.specs.Truth.{Learnt, IsLearnt}
use Rattle.ls_spec.proofs.AlikeLemmas.{AllByRecursion-front, AllByRecursion-back}
use Rattle.ls_arrays.specs.declared.atom.ArrayAtom.{ArrayAtom}
use Rattle.ls_arrays.specs.Arrays.{IsArray}
use Rattle.ls_cells.specs.Rows.{AreLong}
use Rattle.ls_cells.specs.steps.Asking.{AreSigns}
use Rattle.ls_cells.proofs.ArrayCountLemmas.{few_arrays, some_array}
use Rattle.ls_cells.proofs.ArrayLemmas.{array_step, array_done}
use Rattle.ls_cells.proofs.AskingLemmas.{are_signs, asked_fit, asked_count}
use Rattle.ls_cells.proofs.arrays.push_arrays.Goals as goal

pub returns-then-is_idle-clause-most : goal.returns-then-is_idle-clause-most
returns-then-is_idle-clause-most g c = λ structures h. omega (arith, c.push_idle.ensures.most, some_array (map specifier c.args.atoms.now))

pub returns-then-is_idle-clause-rows : goal.returns-then-is_idle-clause-rows
returns-then-is_idle-clause-rows g c = on_ok_weaker c.push_idle.result (λ rows structures learnt h known. rows structures learnt) c.push_idle.ensures.rows

pub reps-requires : goal.reps-requires
reps-requires g c = asked_fit c.requires.asked.0 c.requires.asked.0 c.args.atoms.now c.args.asked.now c.requires.asked.1 c.requires.asked.2

pub loop-object-init : goal.loop-object-init
loop-object-init g c = record {
  rises = omega arith;
  most = omega arith;
  fewer = omega arith;
  long = λ h. h;
  plain = c.in_ok-reps.ensures.plain;
  objects = λ structures. c.in_ok-reps.ensures.objects structures tt;
  kept = λ structures learnt specs right signs h. h;
  each = λ structures learnt specs right h. h;
  all = λ structures learnt specs right o object of_class. inl (c.in_ok-reps.ensures.law structures tt o object of_class);
}

pub push_array-requires-clause-class : goal.push_array-requires-clause-class
push_array-requires-clause-class g c =
    (AllByRecursion-back (λ r. IsPlainOf IsArray (lisp_object r)) c.pop.new.self (c.in-Some.object ∷ []) (subst (AllByRecursion (λ r. IsPlainOf IsArray (lisp_object r))) c.in-Some.ensures c.loop-object.invariant.plain)).0.1

pub push_array-requires-clause-plain : goal.push_array-requires-clause-plain
push_array-requires-clause-plain g c =
    (AllByRecursion-back (λ r. IsPlainOf IsArray (lisp_object r)) c.pop.new.self (c.in-Some.object ∷ []) (subst (AllByRecursion (λ r. IsPlainOf IsArray (lisp_object r))) c.in-Some.ensures c.loop-object.invariant.plain)).0.0

pub loop-object-preserved : goal.loop-object-preserved
loop-object-preserved g c =
    let asked = c.args.asked.now in
    let last = c.in-Some.object in
    let after = c.pop.new.self in
    let plains = subst (AllByRecursion (λ r. IsPlainOf IsArray (lisp_object r))) c.in-Some.ensures c.loop-object.invariant.plain in
    let all_objects = λ (structures : Structures). subst (AllByRecursion (λ r. IsObject structures (lisp_object r))) c.in-Some.ensures (c.loop-object.invariant.objects structures) in
    let object = λ (structures : Structures). (AllByRecursion-back (λ r. IsObject structures (lisp_object r)) after (last ∷ []) (all_objects structures)).0 in
    let adds = λ (structures : Structures) (learnt : Learnt) (specs : List Specifier) (right : AreSigns structures learnt specs asked).
    c.in_ok-push_array.ensures.rows structures learnt specs (subst (AreSigns structures learnt specs) (sym c.as_slice-each.ensures) right) (object structures) in
    record {
      rises = omega (arith, c.loop-object.invariant.rises, c.in_ok-push_array.ensures.rises);
      most = omega (arith, c.in_ok-push_array.ensures.most, c.loop-object.invariant.most, ap length c.in-Some.ensures, length-append after (last ∷ []));
      fewer = omega (arith, c.loop-object.invariant.fewer, c.in_ok-push_array.ensures.fewer);
      long = λ h. (subst (λ (xs : List ArrayAtom). AreLong (length xs) c.loop-object.rows → AreLong (length xs) c.push_array.new.rows) c.as_slice-each.ensures c.in_ok-push_array.ensures.long) (c.loop-object.invariant.long h);
      plain = AllByRecursion-front (λ r. IsPlainOf IsArray (lisp_object r)) after (last ∷ []) plains;
      objects = λ structures. AllByRecursion-front (λ r. IsObject structures (lisp_object r)) after (last ∷ []) (all_objects structures);
      kept = λ structures learnt specs right signs h. (adds structures learnt specs right).kept signs (c.loop-object.invariant.kept structures learnt specs right signs h);
      each = λ structures learnt specs right h. (adds structures learnt specs right).each (c.loop-object.invariant.each structures learnt specs right h);
      all = λ structures learnt specs right o is_object of_class.
          array_step structures learnt specs asked right c.loop-object.reps after last o c.loop-object.rows c.push_array.new.rows c.in-Some.ensures (adds structures learnt specs right) (object structures)
          (AllByRecursion-back (λ r. IsPlainOf IsArray (lisp_object r)) after (last ∷ []) plains).0.1 is_object of_class (c.loop-object.invariant.all structures learnt specs right o is_object of_class);
    }

pub returns-in_err-push_array-clause-long : goal.returns-in_err-push_array-clause-long
returns-in_err-push_array-clause-long g c =
    let count : length c.args.asked.now ≡ length c.args.atoms.now = asked_count c.requires.asked.0 (map specifier c.args.atoms.now) c.args.asked.now c.requires.asked.2 ∙ length-map c.args.atoms.now specifier in
    subst (λ (n : ℕ). AreLong n c.args.rows.now → AreLong n c.push_array.new.rows) count
    (λ h. (subst (λ (xs : List ArrayAtom). AreLong (length xs) c.loop-object.rows → AreLong (length xs) c.push_array.new.rows) c.as_slice-each.ensures c.push_array.ensures.long) (c.loop-object.invariant.long h))

pub returns-in_err-push_array-clause-most : goal.returns-in_err-push_array-clause-most
returns-in_err-push_array-clause-most g c = λ structures h.
    omega (
      arith,
      c.push_array.ensures.most,
      c.loop-object.invariant.most,
      ap length c.in-Some.ensures,
      length-append c.pop.new.self (c.in-Some.object ∷ []),
      c.in_ok-reps.ensures.count,
      few_arrays structures (map specifier c.args.atoms.now) c.args.asked.now h,
    )

pub returns-clause-long : goal.returns-clause-long
returns-clause-long g c =
    let count : length c.args.asked.now ≡ length c.args.atoms.now = asked_count c.requires.asked.0 (map specifier c.args.atoms.now) c.args.asked.now c.requires.asked.2 ∙ length-map c.args.atoms.now specifier in
    subst (λ (n : ℕ). AreLong n c.args.rows.now → AreLong n c.loop-object.rows) count c.loop-object.invariant.long

pub returns-clause-most : goal.returns-clause-most
returns-clause-most g c = λ structures h.
    omega (arith, c.loop-object.invariant.most, c.in_ok-reps.ensures.count, few_arrays structures (map specifier c.args.atoms.now) c.args.asked.now h)

pub returns-clause-rows : goal.returns-clause-rows
returns-clause-rows g c = λ structures learnt h known.
    let specs = map specifier c.args.atoms.now in
    let right = are_signs structures learnt c.requires.asked.0 c.args.atoms.now c.args.asked.now c.requires.asked.1 h
    (recursion_from_All (IsLearnt structures learnt) specs known) in
    record {
      kept = c.loop-object.invariant.kept structures learnt specs right;
      each = c.loop-object.invariant.each structures learnt specs right;
      all = λ o object of_class.
          array_done structures learnt specs c.args.asked.now right c.loop-object.reps o c.loop-object.rows c.in_default.ensures.0 (c.loop-object.invariant.all structures learnt specs right o object of_class);
    }
