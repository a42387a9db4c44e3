use Rattle.std.proofs.Common.{◌∙◌, ap}
use Rattle.ls_object.specs.Universe.{pair}
use Rattle.ls_object.specs.Meaning.{lisp_object, lisp_shape}
use Rattle.ls_spec.specs.declared.spec.Point.TheVariants as point
use Rattle.ls_spec.specs.Specifier.{eql_to}
use Rattle.ls_spec.specs.Keys.{key}
use Rattle.ls_cells.proofs.PointLemmas.{key_number, key_char, key_symbol, no_point, shape_number, shape_char, shape_symbol, shape_pair}
use Rattle.ls_cells.proofs.index.key_of_shape.Goals as goal

pub returns-in_ok-key_of_point-in-Number : goal.returns-in_ok-key_of_point-in-Number
returns-in_ok-key_of_point-in-Number c = key_number (lisp_shape c.args.shape.now) c.in-Number.r _ (ap lisp_shape c.in-Number.is ∙ shape_number c.in-Number.r) c.in_ok-key_of_point-in-Number.ensures

pub returns-in_ok-key_of_point-in-Char : goal.returns-in_ok-key_of_point-in-Char
returns-in_ok-key_of_point-in-Char c = key_char (lisp_shape c.args.shape.now) c.in-Char.c _ (ap lisp_shape c.in-Char.is ∙ shape_char c.in-Char.c) c.in_ok-key_of_point-in-Char.ensures

pub returns-in_ok-key_of_point-in-Sym : goal.returns-in_ok-key_of_point-in-Sym
returns-in_ok-key_of_point-in-Sym c =
    key_symbol (lisp_shape c.args.shape.now) c.in-Sym.s _ (ap lisp_shape c.in-Sym.is ∙ shape_symbol c.in-Sym.s) (c.in_ok-key_of_point-in-Sym.ensures ∙ ap (λ s. key (eql_to (point.Sym s))) c.in_ok-copy-in-Sym.ensures)

pub returns-in-Pair : goal.returns-in-Pair
returns-in-Pair c =
    no_point (lisp_shape c.args.shape.now) (pair (lisp_object c.in-Pair.field-0) (lisp_object c.in-Pair.field-1)) (ap lisp_shape c.in-Pair.is ∙ shape_pair c.in-Pair.field-0 c.in-Pair.field-1) tt
