use Rattle.std.proofs.Common.{take}
use Rattle.std.specs.List.{AllByRecursion}
use Rattle.ls_object.specs.Universe.{Structures, plain}
use Rattle.ls_object.specs.Meaning.{lisp_object}
use Rattle.ls_spec.specs.Regions.{IsInSecondIfFirst}
use Rattle.ls_spec.proofs.regions.is_included_within.Given as goal

abbrev pub invariant-loop-object : goal.invariant-loop-object
invariant-loop-object g l =
    (structures : Structures) → g.R.Regions.IsOver l.regions structures → AllByRecursion (λ r. g.R.Regions.IsOfClass l.regions (lisp_object r) → IsInSecondIfFirst (g.R.Regions.IsIn structures) l.first l.second (plain (lisp_object r))) (take l.object-index l.object-items)
