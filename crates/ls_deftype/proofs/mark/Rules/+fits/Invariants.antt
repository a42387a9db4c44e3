use Rattle.std.proofs.Common.{◌≡◌, drop, map}
use Rattle.ls_deftype.specs.Marks.{all_fit, part}
use Rattle.ls_deftype.specs.steps.Lent.{rules_of}
use Rattle.ls_deftype.proofs.mark.Rules.+fits.Given as goal

abbrev pub invariant-all_fit-loop-datum : goal.invariant-all_fit-loop-datum
invariant-all_fit-loop-datum l = all_fit l.at (map (part (rules_of l.self)) (drop l.datum-index l.data)) ≡ all_fit l.at (map (part (rules_of l.self)) l.data)
