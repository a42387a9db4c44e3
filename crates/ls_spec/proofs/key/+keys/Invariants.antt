use Rattle.std.proofs.Common.{◌≡◌, ◌++◌, drop}
use Rattle.ls_spec.specs.Meaning.{specifiers}
use Rattle.ls_spec.specs.Keys.{keys}
use Rattle.ls_spec.proofs.key.+keys.Given as goal

abbrev pub invariant-push_keys-loop-spec : goal.invariant-push_keys-loop-spec
invariant-push_keys-loop-spec l = l.out.items ++ keys (specifiers (drop l.spec-index l.specs)) ≡ l.initial.out.items ++ keys (specifiers l.specs)
