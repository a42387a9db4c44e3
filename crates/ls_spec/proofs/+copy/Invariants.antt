use Rattle.std.proofs.Common.{◌≡◌, take}
use Rattle.ls_spec.proofs.+copy.Given as goal

abbrev pub invariant-copy::copy_all-loop-spec : goal.invariant-copy::copy_all-loop-spec
invariant-copy::copy_all-loop-spec l = l.copied ≡ take l.spec-index l.specs
