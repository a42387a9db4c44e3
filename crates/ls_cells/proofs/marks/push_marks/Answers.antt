use Rattle.std.proofs.Common.{◌≡◌, ◌<◌, ◌+◌, arith, ap, sym, ◌∙◌, subst, length, map, get_or, true, false, Some}
use Rattle.std.proofs.lemmas.List.{length-map, get_or-map}
use Rattle.ls_spec.specs.Specifier.{no_objects}
use Rattle.ls_spec.specs.Meaning.{specifier}
use Rattle.ls_spec.specs.Atoms.{atoms_of}
use Rattle.ls_lists.specs.Candidates.{is_predicate}
use Rattle.ls_cells.specs.Rows.{AreLong}
use Rattle.ls_cells.specs.steps.Marking.{IsNamed, AreRowsTo}
use Rattle.ls_cells.proofs.MarkLemmas.{predicate_is, rows_to_first, rows_to_last, rows_to_same, rows_to_marked}
use Rattle.ls_cells.proofs.DoubleLemmas.{times_yes, times_no, times_most, atom_there}
use Rattle.ls_cells.proofs.marks.push_marks.Goals as goal
use Rattle.ls_cells.proofs.marks.push_marks.Goals.{then-is_predicate+in_ok-double, else-is_predicate}

pub loop-i-init : goal.loop-i-init
loop-i-init g c = record {
  rises = omega arith;
  most = omega arith;
  few = omega arith;
  fewer = omega arith;
  long = c.requires;
  rows = λ structures learnt list e h. rows_to_first structures learnt (atoms_of list) c.args.rows.now h;
}

pub double-requires : goal.double-requires
double-requires g c = (length c.args.atoms.now, c.loop-i.invariant.long, c.loop-i-test.true)

pub loop-i-preserved : goal.loop-i-preserved
loop-i-preserved g c =
    let atoms = map specifier c.args.atoms.now in
    let i = c.loop-i.i in
    let l = length c.args.rows.now in
    let within : i < length atoms = omega (arith, length-map c.args.atoms.now specifier, c.loop-i-test.true) in
    let atom = specifier c.index-atoms-i.result in
    let at_i : get_or atoms i no_objects ≡ atom =
    get_or-map specifier c.args.atoms.now i c.index-atoms-i.result no_objects c.loop-i-test.true ∙ ap specifier (sym c.index-atoms-i.is) in
    elim c.if-is_predicate.branch [
      | then-is_predicate+in_ok-double w ↦
          let yes : is_predicate atom ≡ true = sym c.is_predicate.ensures.value ∙ w.if-is_predicate.true in
          let twice = times_yes atoms i l no_objects within (ap is_predicate at_i ∙ yes) in
          let made = w.in_ok-double.ensures in
          let p = predicate_is atom yes in
          record {
            rises = omega (arith, c.loop-i.invariant.rises, made.rises, w.steps-is);
            most = omega (arith, c.loop-i.invariant.most, c.loop-i.invariant.few, made.most, w.steps-is, twice);
            few = omega (arith, c.loop-i.invariant.few, made.most, made.fewer, ap length w.rows-is, twice);
            fewer = omega (arith, c.loop-i.invariant.fewer, made.fewer, ap length w.rows-is, w.steps-is);
            long = subst (AreLong (length c.args.atoms.now)) (sym w.rows-is) (made.long (length c.args.atoms.now) c.loop-i.invariant.long);
            rows = λ structures learnt list e h.
                subst (AreRowsTo (i + 1) structures learnt (atoms_of list)) (sym w.rows-is)
                (rows_to_marked structures learnt list i p.0 c.loop-i.rows w.double.new.rows (atom_there c.args.atoms.now (atoms_of list) i no_objects e c.loop-i-test.true ∙ ap Some (at_i ∙ p.1))
                (subst IsNamed p.1 c.is_predicate.ensures.name) made.marks (c.loop-i.invariant.rows structures learnt list e h));
          }
      | else-is_predicate w ↦
          let other : is_predicate atom ≡ false = sym c.is_predicate.ensures.value ∙ w.if-is_predicate.false in
          let once = times_no atoms i l no_objects within (ap is_predicate at_i ∙ other) in
          record {
            rises = omega (arith, c.loop-i.invariant.rises, w.steps-is);
            most = omega (arith, c.loop-i.invariant.most, w.steps-is, once);
            few = omega (arith, c.loop-i.invariant.few, ap length w.rows-is, once);
            fewer = omega (arith, c.loop-i.invariant.fewer, ap length w.rows-is, w.steps-is);
            long = subst (AreLong (length c.args.atoms.now)) (sym w.rows-is) c.loop-i.invariant.long;
            rows = λ structures learnt list e h.
                subst (AreRowsTo (i + 1) structures learnt (atoms_of list)) (sym w.rows-is)
                (rows_to_same structures learnt list i atom c.loop-i.rows (atom_there c.args.atoms.now (atoms_of list) i no_objects e c.loop-i-test.true ∙ ap Some at_i) other (c.loop-i.invariant.rows structures learnt list e h));
          }
    ]

pub returns-in_err-double-clause-most : goal.returns-in_err-double-clause-most
returns-in_err-double-clause-most g c =
    let atoms = map specifier c.args.atoms.now in
    let i = c.loop-i.i in
    let l = length c.args.rows.now in
    let within : i < length atoms = omega (arith, length-map c.args.atoms.now specifier, c.loop-i-test.true) in
    let at_i : get_or atoms i no_objects ≡ specifier c.index-atoms-i.result =
    get_or-map specifier c.args.atoms.now i c.index-atoms-i.result no_objects c.loop-i-test.true ∙ ap specifier (sym c.index-atoms-i.is) in
    let twice = times_yes atoms i l no_objects within (ap is_predicate at_i ∙ sym c.is_predicate.ensures.value ∙ c.if-is_predicate.true) in
    omega (arith, c.loop-i.invariant.most, c.loop-i.invariant.few, c.double.ensures.most, twice, times_most atoms (i + 1) l)

pub returns-in_err-double-clause-long : goal.returns-in_err-double-clause-long
returns-in_err-double-clause-long g c = c.double.ensures.long (length c.args.atoms.now) c.loop-i.invariant.long

pub returns-clause-most : goal.returns-clause-most
returns-clause-most g c = omega (arith, c.loop-i.invariant.most, times_most (map specifier c.args.atoms.now) c.loop-i.i (length c.args.rows.now))

pub returns-clause-rows : goal.returns-clause-rows
returns-clause-rows g c = λ structures learnt list e h.
    rows_to_last structures learnt (atoms_of list) c.loop-i.i c.loop-i.rows
    (omega (arith, ap length e, length-map c.args.atoms.now specifier, c.loop-i-test.false)) (c.loop-i.invariant.rows structures learnt list e h)
