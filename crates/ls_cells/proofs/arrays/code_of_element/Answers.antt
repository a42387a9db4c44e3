use Rattle.std.proofs.Common.{ap, sym, ◌∙◌}
use Rattle.std.specs.Option.{option_copied}
use Rattle.ls_cells.proofs.CodeLemmas.{code_found, code_missing}
use Rattle.ls_cells.proofs.arrays.code_of_element.Goals as goal

pub unreachable-requires : goal.unreachable-requires
unreachable-requires c =
    code_missing c.args.table.now c.len-distinct.ensures.distinct c.args.element c.args.codes.now c.requires.within c.requires.keys (sym c.get.ensures ∙ ap option_copied c.in-None.is) c.requires.learnt

pub returns : goal.returns
returns c structures are =
    (code_found structures c.args.table.now c.args.codes.now c.args.element c.in-Some.code.now are (sym c.get.ensures ∙ ap option_copied c.in-Some.is)).1
