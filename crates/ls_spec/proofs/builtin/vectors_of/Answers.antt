use Rattle.ls_spec.proofs.BuiltinLemmas.{specifier-ArrayOf}
use Rattle.ls_spec.proofs.builtin.vectors_of.Goals as goal

pub returns : goal.returns
returns c =
    let e = specifier-ArrayOf c.in_ok-elem.elem c.args.simple c.in_ok-one_dimension.field-0 in
    cc (c.in_ok-elem.ensures, c.in_ok-one_dimension.ensures)
