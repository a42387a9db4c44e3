use Rattle.std.proofs.Common.{subst}
use Rattle.std.specs.Prelude.{MatchOption}
use Rattle.ls_object.specs.Meaning.{lisp_shape}
use Rattle.ls_cells.specs.steps.Index.{IsNoPoint, IsKeyOf}
use Rattle.ls_cells.proofs.PointLemmas.{place_none, place_found}
use Rattle.ls_cells.proofs.index.place_of.Goals as goal

pub returns-in-None : goal.returns-in-None
returns-in-None c =
    place_none c.args.names.now (lisp_shape c.args.shape.now)
    (subst (λ r. MatchOption r (IsNoPoint (lisp_shape c.args.shape.now)) (λ k. IsKeyOf (lisp_shape c.args.shape.now) k.items)) c.in-None.is c.in_ok-key_of_shape.ensures)

pub returns-in-Some : goal.returns-in-Some
returns-in-Some c =
    place_found c.args.names.now (lisp_shape c.args.shape.now) c.in-Some.key.items c.as_slice.result.now c.get.result c.requires
    (subst (λ r. MatchOption r (IsNoPoint (lisp_shape c.args.shape.now)) (λ k. IsKeyOf (lisp_shape c.args.shape.now) k.items)) c.in-Some.is c.in_ok-key_of_shape.ensures)
    c.as_slice.ensures.value c.get.ensures
