use Rattle.std.proofs.Common.{sym, ◌∙◌, length}
use Rattle.ls_env.specs.steps.Marking.{is_held}
use Rattle.ls_env.proofs.HeldLemmas.{passes_next, one_fails}
use Rattle.ls_env.proofs.marking.are_parts.Goals as goal

pub returns-then-not-is_held : goal.returns-then-not-is_held
returns-then-not-is_held c =
    one_fails (is_held c.args.graph.now c.args.parts.now) (length c.args.graph.now) c.loop-at.at c.loop-at-test.true (sym c.is_held.ensures ∙ c.if-not-is_held.true)

pub loop-at-preserved : goal.loop-at-preserved
loop-at-preserved c =
    passes_next (is_held c.args.graph.now c.args.parts.now) c.loop-at.at c.loop-at.invariant (sym c.is_held.ensures ∙ c.if-not-is_held.false)
