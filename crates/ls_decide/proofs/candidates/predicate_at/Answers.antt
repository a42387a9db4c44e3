use Rattle.std.proofs.Common.{ap, ◌∙◌}
use Rattle.ls_lists.specs.Candidates.{is_predicate}
use Rattle.ls_decide.proofs.NodeLemmas.{predicate_is}
use Rattle.ls_decide.proofs.candidates.predicate_at.Goals as goal

pub returns : goal.returns
returns c = c.is_predicate.ensures ∙ predicate_is c.args.table.now c.node.result.now ∙ ap is_predicate c.node.ensures.says
