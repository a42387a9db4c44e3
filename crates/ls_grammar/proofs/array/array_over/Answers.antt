use Rattle.ls_spec.proofs.BuiltinLemmas.{specifier-ArrayOf}
use Rattle.ls_grammar.proofs.array.array_over.Goals as goal

pub returns : goal.returns
returns c =
    let e = specifier-ArrayOf c.in_ok-element.element c.args.simple c.args.dims in
    cc (c.in_ok-element.ensures)
