-- What an object stands for, one level deep.
use Rattle.std.proofs.Common.{◌≡◌, sym, ap, ◌∙◌}
use Rattle.ls_object.specs.declared.object.Object.{Object}
use Rattle.ls_object.specs.declared.object.Shape.TheViews.{Pair, rolls-Pair}
use Rattle.ls_object.specs.declared.object.Shape.TheFolds.{fold_out-Object, fold-roll-Shape}
use Rattle.ls_object.specs.declared.object.Shape.TheOpen.{Shape-F}
use Rattle.ls_object.specs.Universe.{LispObject, LispShape, node, pair}
use Rattle.ls_object.specs.Meaning.{lisp_object, lisp_shape, object_step, shape_step}

-- an object is its marks and what its shape stands for
pub lisp_object_is : (o : Object) → lisp_object o ≡ node o.marks (lisp_shape o.shape)
lisp_object_is o = fold_out-Object LispShape LispObject shape_step object_step o

-- a cons is one of what its parts stand for
lisp_shape-Pair : (car cdr : Object) → lisp_shape (Pair car cdr) ≡ pair (lisp_object car) (lisp_object cdr)
lisp_shape-Pair car cdr = ap lisp_shape (sym (rolls-Pair car cdr)) ∙ fold-roll-Shape LispShape LispObject shape_step object_step (Shape-F.Pair car cdr)

-- an object with the shape of a cons
pub lisp_object-Pair : (o car cdr : Object) → o.shape ≡ Pair car cdr → lisp_object o ≡ node o.marks (pair (lisp_object car) (lisp_object cdr))
lisp_object-Pair o car cdr e = lisp_object_is o ∙ ap (node o.marks) (ap lisp_shape e ∙ lisp_shape-Pair car cdr)
