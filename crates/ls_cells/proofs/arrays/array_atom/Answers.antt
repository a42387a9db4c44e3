use Rattle.std.proofs.Common.{ap, refl, ◌∙◌}
use Rattle.ls_intern.specs.declared.node.Node.TheVariants as node
use Rattle.ls_cells.proofs.AskingLemmas.{element_asked}
use Rattle.ls_cells.proofs.arrays.array_atom.Goals as goal

pub returns-in-Some : goal.returns-in-Some
returns-in-Some c structures are =
    element_asked structures c.args.table.now c.node.result.now _ c.in-Some.element c.in-ArrayOf.simple c.in-ArrayOf.dims _ c.code_of_element.result.index
    c.node.ensures.says (c.in-ArrayOf.is ∙ ap (λ x. node.ArrayOf x c.in-ArrayOf.simple c.in-ArrayOf.dims) c.in-Some.is) (c.code_of_element.ensures structures are) c.one_code.ensures refl c.in_ok-dims-in-ArrayOf.ensures
