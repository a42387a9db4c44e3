use Rattle.std.proofs.Common.{ap, ◌∙◌}
use Rattle.ls_lists.specs.Candidates.{is_string}
use Rattle.ls_decide.proofs.NodeLemmas.{string_is}
use Rattle.ls_decide.proofs.candidates.string_at.Goals as goal

pub returns : goal.returns
returns c = c.is_string.ensures ∙ string_is c.args.table.now c.node.result.now ∙ ap is_string c.node.ensures.says
