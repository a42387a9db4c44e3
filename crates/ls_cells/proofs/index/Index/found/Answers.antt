use Rattle.std.proofs.Common.{◌∙◌, arith, ap, length}
use Rattle.ls_object.specs.Meaning.{lisp_object, lisp_shape}
use Rattle.ls_object.proofs.MeaningLemmas.{lisp_object_is}
use Rattle.ls_cells.proofs.TabulateLemmas.{length-tabulate}
use Rattle.ls_cells.proofs.PointLemmas.{found_none, found_some}
use Rattle.ls_cells.proofs.index.Index.found.Goals as goal

pub set-requires : goal.set-requires
set-requires c =
    let n = c.in_ok-place_of.ensures.named c.in-Some.place c.in-Some.is in
    let l = c.requires.below n.0 c.in-Some.place n.1 in
    let e = ap length c.in_ok-signs.ensures ∙ length-tabulate c.args.len _ in
    omega (arith, l, e)

pub returns-in-None : goal.returns-in-None
returns-in-None c =
    found_none c.args.len c.args.self.now.names (lisp_object c.args.object.now) c.args.object.now.marks (lisp_shape c.args.object.now.shape) c.in_ok-signs.signs _
    (lisp_object_is c.args.object.now) c.in_ok-place_of.ensures c.in-None.is c.in_ok-signs.ensures

pub returns-in-Some : goal.returns-in-Some
returns-in-Some c =
    let n = c.in_ok-place_of.ensures.named c.in-Some.place c.in-Some.is in
    found_some c.args.len c.args.self.now.names (lisp_object c.args.object.now) c.args.object.now.marks (lisp_shape c.args.object.now.shape) c.in_ok-signs.signs c.set.new.self _ c.in-Some.place
    (lisp_object_is c.args.object.now) c.in_ok-place_of.ensures c.in-Some.is (c.requires.below n.0 c.in-Some.place n.1) c.in_ok-signs.ensures c.set.ensures
