use Rattle.std.proofs.Common.{[]}
use Rattle.ls_object.specs.Meaning.{lisp_object}
use Rattle.ls_cells.proofs.ArrayLemmas.{signs_more}
use Rattle.ls_cells.proofs.arrays.signs_of_array.Goals as goal

pub loop-atom-preserved : goal.loop-atom-preserved
loop-atom-preserved c =
    signs_more c.args.asked.now c.loop-atom.atom-index c.atom-item.result (lisp_object c.args.object.now) c.loop-atom.signs c.push.new.self c.holds.result c.loop-atom-test.true
    c.atom-item.is c.requires (c.holds.ensures [] tt c.requires) c.loop-atom.invariant c.in_ok-push.ensures.ok
