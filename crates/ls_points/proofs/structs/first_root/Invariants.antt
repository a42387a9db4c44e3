use Rattle.std.proofs.Common.{[], take, List}
use Rattle.std.specs.List.{AllByRecursion}
use Rattle.ls_object.specs.declared.symbol.Symbol.{Symbol}
use Rattle.ls_points.specs.steps.Inheriting.{AddsKeys, IsRootNamed}
use Rattle.ls_points.proofs.structs.first_root.Given as goal

abbrev pub invariant-loop-pair : goal.invariant-loop-pair
invariant-loop-pair l = (names : List Symbol) → AddsKeys names [] l.keys.keys → AllByRecursion (IsRootNamed names) (take l.pair-index l.pairs)
