use Rattle.std.proofs.Common.{ap, map}
use Rattle.ls_object.specs.Meaning.{lisp_object}
use Rattle.ls_points.specs.steps.Kinds.{named_kinds}
use Rattle.ls_points.proofs.KindLaw.{kind_law, kind_objects, kind_plains, kind_count, joined}
use Rattle.ls_points.proofs.kinds.OpaqueRegionsRegions.reps.Goals as goal

pub returns : goal.returns
returns c =
    let atoms = c.args.atoms.now in
    let unnamed = c.first_in_none-unnamed.result in
    let named = rw c.as_slice.ensures at c.in_ok-push_named.ensures in
    let unnamed_is = rw c.as_slice-2.ensures at c.first_in_none-unnamed.ensures in
    let is = joined (named_kinds atoms) unnamed (map lisp_object c.new-out.result) (map lisp_object c.push_named.new.out) (map lisp_object c.push_kind.new.out) (map lisp_object c.push_found.new.out) (ap (map lisp_object) c.new-out.ensures) named c.in_ok-push_kind.ensures c.in_ok-push_found.ensures in
    record {
      plain = kind_plains atoms unnamed c.requires unnamed_is c.push_found.new.out is;
      objects = λ structures over. kind_objects atoms unnamed c.requires unnamed_is c.push_found.new.out is structures;
      law = λ structures over. kind_law atoms unnamed c.requires unnamed_is c.push_found.new.out is structures;
      count = kind_count atoms unnamed c.requires unnamed_is c.push_found.new.out is;
    }
