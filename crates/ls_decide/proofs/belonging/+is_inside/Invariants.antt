use Rattle.std.proofs.Common.{◌+◌, ◌*◌, [], ◌∷◌, Bool, drop}
use Rattle.ls_object.specs.Meaning.{lisp_object}
use Rattle.ls_intern.proofs.TreeLemmas.{above}
use Rattle.ls_cells.specs.Kept.{structures_in, specifiers_in}
use Rattle.ls_decide.proofs.BelongingLemmas.{AllTold, SomeTold}
use Rattle.ls_decide.proofs.belonging.+is_inside.Given as goal

abbrev pub decreases-is_inside : goal.decreases-is_inside
decreases-is_inside l = 2 * l.id + 1

abbrev pub decreases-all_inside : goal.decreases-all_inside
decreases-all_inside l = 2 * above l.parts.now

abbrev pub decreases-some_inside : goal.decreases-some_inside
decreases-some_inside l = 2 * above l.parts.now

abbrev pub decreases-is_pair_inside : goal.decreases-is_pair_inside
decreases-is_pair_inside l = 2 * above (l.car ∷ l.cdr ∷ [])

abbrev pub invariant-all_inside-loop-part : goal.invariant-all_inside-loop-part
invariant-all_inside-loop-part l =
    (told : Bool) → AllTold (structures_in l.store) l.upper (specifiers_in l.store) (lisp_object l.object) (drop l.part-index l.parts) told
    → AllTold (structures_in l.store) l.upper (specifiers_in l.store) (lisp_object l.object) l.parts told

abbrev pub invariant-some_inside-loop-part : goal.invariant-some_inside-loop-part
invariant-some_inside-loop-part l =
    (told : Bool) → SomeTold (structures_in l.store) l.upper (specifiers_in l.store) (lisp_object l.object) (drop l.part-index l.parts) told
    → SomeTold (structures_in l.store) l.upper (specifiers_in l.store) (lisp_object l.object) l.parts told
