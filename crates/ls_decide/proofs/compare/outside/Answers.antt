use Rattle.std.proofs.Common.{ℕ, ◌<◌, subst, length, Option}
use Rattle.std.specs.Prelude.{IfSome}
use Rattle.ls_object.specs.Meaning.{lisp_object}
use Rattle.ls_intern.specs.Places.{at}
use Rattle.ls_decide.specs.steps.Comparing.{IsPlaceOutside}
use Rattle.ls_decide.proofs.RightLemmas.{object_outside}
use Rattle.ls_decide.proofs.compare.outside.Goals as goal

pub returns-clause-right : goal.returns-clause-right
returns-clause-right c = λ structures learnt of_a of_b are.
    let a = at c.args.table.now c.args.a in
    let b = at c.args.table.now c.args.b in
    let rows = c.args.cells.now.rows in
    object_outside structures a b rows c.in-Some.row (lisp_object c.in_ok-object.field-0)
    (subst (λ (place : Option ℕ). IfSome place (λ i. i < length rows)) c.in-Some.is c.in_ok-row.ensures.within)
    (subst (IsPlaceOutside structures a b rows) c.in-Some.is (c.in_ok-row.ensures.right structures learnt of_a of_b are)) c.in_ok-object.ensures.object
