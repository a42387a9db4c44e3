-- The object of the universe that an `Object` stands for.
use Rattle.ls_object.specs.Universe.{LispObject, node, LispShape, number, character, symbol, pair, array, structure, opaque}
use Rattle.ls_object.specs.declared.object.Object.{Object, fold-Object}
use Rattle.ls_object.specs.declared.object.Shape.{Shape, fold-Shape}
use Rattle.ls_object.specs.declared.object.Shape.TheOpen.{Shape-F, Object-F}

-- one level, with each part already seen as what it stands for
abbrev pub shape_step : Shape-F LispShape LispObject → LispShape
shape_step (Shape-F.Number r) = number r.num r.den
shape_step (Shape-F.Char c) = character c
shape_step (Shape-F.Sym s) = symbol s
shape_step (Shape-F.Pair car cdr) = pair car cdr
shape_step (Shape-F.Array code simple dims) = array code.index simple dims
shape_step (Shape-F.Structure s) = structure s
shape_step (Shape-F.Opaque k) = opaque k

abbrev pub object_step : Object-F LispShape LispObject → LispObject
object_step o = node o.marks o.shape

-- what an object and a shape stand for
abbrev pub lisp_object : Object → LispObject
lisp_object = fold-Object LispShape LispObject shape_step object_step

abbrev pub lisp_shape : Shape → LispShape
lisp_shape = fold-Shape LispShape LispObject shape_step object_step
