use Rattle.std.proofs.Common.{◌≡◌, ◌+◌, drop}
use Rattle.ls_deftype.specs.LambdaLists.{keyword_at}
use Rattle.ls_deftype.proofs.lambda.keyword_at.Given as goal

abbrev pub invariant-loop-i : goal.invariant-loop-i
invariant-loop-i l = l.i + keyword_at (drop l.i l.data) ≡ keyword_at l.data
