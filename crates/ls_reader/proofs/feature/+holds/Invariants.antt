use Rattle.std.proofs.Common.{◌≡◌, Some, map, drop}
use Rattle.ls_reader.specs.Features.{part, both, either, conjunction, disjunction}
use Rattle.ls_reader.proofs.feature.+holds.Given as goal

abbrev pub invariant-all_hold-loop-part : goal.invariant-all_hold-loop-part
invariant-all_hold-loop-part l = both (Some l.all) (conjunction (map part (drop l.part-index l.parts))) ≡ conjunction (map part l.parts)

abbrev pub invariant-some_holds-loop-part : goal.invariant-some_holds-loop-part
invariant-some_holds-loop-part l = either (Some l.any) (disjunction (map part (drop l.part-index l.parts))) ≡ disjunction (map part l.parts)
