use Rattle.std.proofs.Common.{◌≡◌, ◌++◌, drop}
use Rattle.ls_env.specs.steps.Mentioned.{mentioned_by_all}
use Rattle.ls_env.proofs.mention.Finder.+mention.Given as goal

abbrev pub invariant-push_all-loop-datum : goal.invariant-push_all-loop-datum
invariant-push_all-loop-datum l =
    l.out ++ mentioned_by_all l.self.names.now.keys l.self.statuses.now (drop l.datum-index l.data)
    ≡ l.fn.out ++ mentioned_by_all l.self.names.now.keys l.self.statuses.now l.data
