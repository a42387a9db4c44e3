use Rattle.std.proofs.Common.{arith, refl, map}
use Rattle.ls_spec.specs.Meaning.{specifier}
use Rattle.ls_cells.proofs.AddLemmas.{adds_flat}
use Rattle.ls_cells.proofs.ClassLemmas.{fit_atoms}
use Rattle.ls_cells.proofs.IdleLemmas.{some_structure}
use Rattle.ls_cells.proofs.IndexLemmas.{same_atoms}
use Rattle.ls_cells.proofs.LimitLemmas.{limits_are}
use Rattle.ls_cells.proofs.classes.push_flat.Goals as goal

pub push_class-requires-clause-fit : goal.push_class-requires-clause-fit
push_class-requires-clause-fit g c = fit_atoms c.args.structs.now c.args.atoms.now c.requires.fit

pub push_class-requires-2-clause-fit : goal.push_class-requires-2-clause-fit
push_class-requires-2-clause-fit g c = fit_atoms c.args.structs.now c.args.atoms.now c.requires.fit

pub push_class-requires-3-clause-fit : goal.push_class-requires-3-clause-fit
push_class-requires-3-clause-fit g c = fit_atoms c.args.structs.now c.args.atoms.now c.requires.fit

pub push_class-requires-4-clause-fit : goal.push_class-requires-4-clause-fit
push_class-requires-4-clause-fit g c = fit_atoms c.args.structs.now c.args.atoms.now c.requires.fit

pub push_class-requires-clause-room : goal.push_class-requires-clause-room
push_class-requires-clause-room g c = omega arith

pub push_class-requires-clause-class : goal.push_class-requires-clause-class
push_class-requires-clause-class g c = λ o h. h

pub push_class-requires-2-clause-room : goal.push_class-requires-2-clause-room
push_class-requires-2-clause-room g c = omega arith

pub push_class-requires-2-clause-class : goal.push_class-requires-2-clause-class
push_class-requires-2-clause-class g c = λ o h. h

pub push_class-requires-3-clause-room : goal.push_class-requires-3-clause-room
push_class-requires-3-clause-room g c = omega arith

pub push_class-requires-3-clause-class : goal.push_class-requires-3-clause-class
push_class-requires-3-clause-class g c = λ o h. h

pub push_class-requires-4-clause-room : goal.push_class-requires-4-clause-room
push_class-requires-4-clause-room g c = omega arith

pub push_class-requires-4-clause-class : goal.push_class-requires-4-clause-class
push_class-requires-4-clause-class g c = λ o h. h

pub push_class-requires-5-clause-room : goal.push_class-requires-5-clause-room
push_class-requires-5-clause-room g c = omega arith

pub push_class-requires-5-clause-class : goal.push_class-requires-5-clause-class
push_class-requires-5-clause-class g c = some_structure c.args.structs.now

pub push_class-requires-clause-index : goal.push_class-requires-clause-index
push_class-requires-clause-index g c = same_atoms c.args.atoms.now c.as_slice.result.now c.in_ok-index.index c.as_slice.ensures c.in_ok-index.ensures

pub push_class-requires-2-clause-index : goal.push_class-requires-2-clause-index
push_class-requires-2-clause-index g c = same_atoms c.args.atoms.now c.as_slice.result.now c.in_ok-index.index c.as_slice.ensures c.in_ok-index.ensures

pub push_class-requires-3-clause-index : goal.push_class-requires-3-clause-index
push_class-requires-3-clause-index g c = same_atoms c.args.atoms.now c.as_slice.result.now c.in_ok-index.index c.as_slice.ensures c.in_ok-index.ensures

pub push_class-requires-4-clause-index : goal.push_class-requires-4-clause-index
push_class-requires-4-clause-index g c = same_atoms c.args.atoms.now c.as_slice.result.now c.in_ok-index.index c.as_slice.ensures c.in_ok-index.ensures

pub push_class-requires-5-clause-index : goal.push_class-requires-5-clause-index
push_class-requires-5-clause-index g c = same_atoms c.args.atoms.now c.as_slice.result.now c.in_ok-index.index c.as_slice.ensures c.in_ok-index.ensures

pub push_arrays-requires : goal.push_arrays-requires
push_arrays-requires g c = record { asked = (c.args.structs.now, c.requires.fit, c.requires.asked) }

pub returns : goal.returns
returns g c = record {
  rises = omega (arith, c.in_ok-push_class.ensures.rises, c.in_ok-push_class-2.ensures.rises, c.in_ok-push_class-3.ensures.rises, c.in_ok-push_class-4.ensures.rises, c.in_ok-push_class-5.ensures.rises, c.in_ok-push_arrays.ensures.rises);
  most = omega (arith, c.in_ok-push_class.ensures.most, c.in_ok-push_class-2.ensures.most, c.in_ok-push_class-3.ensures.most, c.in_ok-push_class-4.ensures.most, c.in_ok-push_class-5.ensures.most, c.in_ok-push_arrays.ensures.most c.args.structs.now c.requires.asked, limits_are c.args.atoms.now);
  fewer = omega (arith, c.in_ok-push_class.ensures.fewer, c.in_ok-push_class-2.ensures.fewer, c.in_ok-push_class-3.ensures.fewer, c.in_ok-push_class-4.ensures.fewer, c.in_ok-push_class-5.ensures.fewer, c.in_ok-push_arrays.ensures.fewer);
  long = λ h. c.in_ok-push_arrays.ensures.long (c.in_ok-push_class-5.ensures.long (c.in_ok-push_class-4.ensures.long (c.in_ok-push_class-3.ensures.long (c.in_ok-push_class-2.ensures.long (c.in_ok-push_class.ensures.long h)))));
  rows = λ learnt known.
      adds_flat c.args.structs.now learnt (map specifier c.args.atoms.now) c.args.rows.now c.push_class.new.rows c.push_class-2.new.rows c.push_class-3.new.rows c.push_class-4.new.rows c.push_class-5.new.rows c.push_arrays.new.rows
      (c.in_ok-push_class.ensures.rows c.args.structs.now learnt tt known) (c.in_ok-push_class-2.ensures.rows c.args.structs.now learnt tt known) (c.in_ok-push_class-3.ensures.rows c.args.structs.now learnt tt known)
      (c.in_ok-push_class-4.ensures.rows c.args.structs.now learnt tt known) (c.in_ok-push_class-5.ensures.rows c.args.structs.now learnt refl known) (c.in_ok-push_arrays.ensures.rows c.args.structs.now learnt c.requires.asked known);
}

pub returns-in_err-push_class-clause-most : goal.returns-in_err-push_class-clause-most
returns-in_err-push_class-clause-most g c = omega (arith, c.push_class.ensures.most, limits_are c.args.atoms.now)

pub returns-in_err-push_class-2-clause-most : goal.returns-in_err-push_class-2-clause-most
returns-in_err-push_class-2-clause-most g c = omega (arith, c.in_ok-push_class.ensures.most, c.push_class-2.ensures.most, limits_are c.args.atoms.now)

pub returns-in_err-push_class-3-clause-most : goal.returns-in_err-push_class-3-clause-most
returns-in_err-push_class-3-clause-most g c = omega (arith, c.in_ok-push_class.ensures.most, c.in_ok-push_class-2.ensures.most, c.push_class-3.ensures.most, limits_are c.args.atoms.now)

pub returns-in_err-push_class-3-clause-long : goal.returns-in_err-push_class-3-clause-long
returns-in_err-push_class-3-clause-long g c = λ h. c.push_class-3.ensures.long (c.in_ok-push_class-2.ensures.long (c.in_ok-push_class.ensures.long h))

pub returns-in_err-push_class-4-clause-most : goal.returns-in_err-push_class-4-clause-most
returns-in_err-push_class-4-clause-most g c = omega (arith, c.in_ok-push_class.ensures.most, c.in_ok-push_class-2.ensures.most, c.in_ok-push_class-3.ensures.most, c.push_class-4.ensures.most, limits_are c.args.atoms.now)

pub returns-in_err-push_class-4-clause-long : goal.returns-in_err-push_class-4-clause-long
returns-in_err-push_class-4-clause-long g c = λ h. c.push_class-4.ensures.long (c.in_ok-push_class-3.ensures.long (c.in_ok-push_class-2.ensures.long (c.in_ok-push_class.ensures.long h)))

pub returns-in_err-push_class-5-clause-most : goal.returns-in_err-push_class-5-clause-most
returns-in_err-push_class-5-clause-most g c = omega (arith, c.in_ok-push_class.ensures.most, c.in_ok-push_class-2.ensures.most, c.in_ok-push_class-3.ensures.most, c.in_ok-push_class-4.ensures.most, c.push_class-5.ensures.most, limits_are c.args.atoms.now)

pub returns-in_err-push_class-5-clause-long : goal.returns-in_err-push_class-5-clause-long
returns-in_err-push_class-5-clause-long g c = λ h. c.push_class-5.ensures.long (c.in_ok-push_class-4.ensures.long (c.in_ok-push_class-3.ensures.long (c.in_ok-push_class-2.ensures.long (c.in_ok-push_class.ensures.long h))))

pub returns-in_err-push_arrays-clause-most : goal.returns-in_err-push_arrays-clause-most
returns-in_err-push_arrays-clause-most g c = omega (arith, c.in_ok-push_class.ensures.most, c.in_ok-push_class-2.ensures.most, c.in_ok-push_class-3.ensures.most, c.in_ok-push_class-4.ensures.most, c.in_ok-push_class-5.ensures.most, c.push_arrays.ensures.most c.args.structs.now c.requires.asked, limits_are c.args.atoms.now)

pub returns-in_err-push_arrays-clause-long : goal.returns-in_err-push_arrays-clause-long
returns-in_err-push_arrays-clause-long g c = λ h. c.push_arrays.ensures.long (c.in_ok-push_class-5.ensures.long (c.in_ok-push_class-4.ensures.long (c.in_ok-push_class-3.ensures.long (c.in_ok-push_class-2.ensures.long (c.in_ok-push_class.ensures.long h)))))
