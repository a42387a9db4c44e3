use Rattle.std.proofs.Common.{◌≡◌, ◌++◌, drop}
use Rattle.std.specs.Prelude.{option_map}
use Rattle.ls_deftype.specs.LambdaLists.{optionals_of}
use Rattle.ls_deftype.proofs.lambda.optionals_of.Given as goal

abbrev pub invariant-loop-item : goal.invariant-loop-item
invariant-loop-item l = option_map (λ ps. l.parameters ++ ps) (optionals_of (drop l.item-index l.items)) ≡ optionals_of l.items
