use Rattle.std.proofs.Common.{ap, ◌∙◌}
use Rattle.ls_decide.specs.steps.Weights.{weight}
use Rattle.ls_decide.proofs.NodeLemmas.{weight_is}
use Rattle.ls_decide.proofs.candidates.weight_at.Goals as goal

pub returns-clause-is : goal.returns-clause-is
returns-clause-is c = c.weight.ensures.is ∙ weight_is c.args.table.now c.node.result.now ∙ ap weight c.node.ensures.says
