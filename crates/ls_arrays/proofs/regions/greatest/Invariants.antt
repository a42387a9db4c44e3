use Rattle.std.proofs.Common.{◌≡◌, max, drop}
use Rattle.ls_arrays.specs.steps.Representatives as rep
use Rattle.ls_arrays.proofs.regions.greatest.Given as goal

abbrev pub invariant-loop-n : goal.invariant-loop-n
invariant-loop-n l = max l.most (rep.greatest (drop l.n-index l.numbers)) ≡ rep.greatest l.numbers
