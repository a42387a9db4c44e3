use Rattle.std.proofs.Common.{◌≡◌, ◌++◌, take, drop, map}
use Rattle.ls_deftype.specs.LambdaLists.{none_repeats}
use Rattle.ls_deftype.proofs.reading.add_optional.Given as goal

abbrev pub invariant-loop-parameter : goal.invariant-loop-parameter
invariant-loop-parameter l = record {
  fresh : none_repeats l.names (map (λ p. p.name) (drop l.parameter-index l.optional)) ≡ none_repeats l.fn.names (map (λ p. p.name) l.optional);
  are : l.names ≡ l.fn.names ++ map (λ p. p.name) (take l.parameter-index l.optional);
}
