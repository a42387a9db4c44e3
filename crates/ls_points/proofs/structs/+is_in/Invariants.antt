use Rattle.std.proofs.Common.{[], take}
use Rattle.std.specs.List.{AllByRecursion}
use Rattle.ls_object.specs.Universe.{node, structure}
use Rattle.ls_spec.specs.Meaning.{specifier}
use Rattle.ls_spec.specs.Membership.{Belongs}
use Rattle.ls_points.proofs.structs.+is_in.Given as goal

abbrev pub invariant-is_in_all-loop-part : goal.invariant-is_in_all-loop-part
invariant-is_in_all-loop-part l = AllByRecursion (λ s. Belongs l.parents (specifier s) (node [] (structure l.name))) (take l.part-index l.parts)

abbrev pub invariant-is_in_some-loop-part : goal.invariant-is_in_some-loop-part
invariant-is_in_some-loop-part l = AllByRecursion (λ s. Belongs l.parents (specifier s) (node [] (structure l.name)) → ⊥) (take l.part-index l.parts)
