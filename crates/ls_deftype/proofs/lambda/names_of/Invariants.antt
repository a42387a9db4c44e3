use Rattle.std.proofs.Common.{◌≡◌, ◌++◌, drop}
use Rattle.std.specs.Prelude.{option_map}
use Rattle.ls_deftype.specs.LambdaLists.{names_of}
use Rattle.ls_deftype.proofs.lambda.names_of.Given as goal

abbrev pub invariant-loop-datum : goal.invariant-loop-datum
invariant-loop-datum l = option_map (λ ss. l.names ++ ss) (names_of (drop l.datum-index l.data)) ≡ names_of l.data
