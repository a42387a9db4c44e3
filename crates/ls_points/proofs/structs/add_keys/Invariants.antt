use Rattle.std.proofs.Common.{take}
use Rattle.ls_points.specs.steps.Inheriting.{named_structures, AddsKeys}
use Rattle.ls_points.proofs.structs.add_keys.Given as goal

abbrev pub invariant-loop-atom : goal.invariant-loop-atom
invariant-loop-atom l = AddsKeys (named_structures (take l.atom-index l.atoms)) l.initial.keys.keys l.keys.keys
