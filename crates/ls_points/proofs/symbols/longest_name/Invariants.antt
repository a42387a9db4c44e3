use Rattle.std.proofs.Common.{◌≡◌, max, drop}
use Rattle.ls_points.specs.steps.Symbols.{named_symbols, longest}
use Rattle.ls_points.proofs.symbols.longest_name.Given as goal

abbrev pub invariant-loop-atom : goal.invariant-loop-atom
invariant-loop-atom l = max l.longest (longest (named_symbols (drop l.atom-index l.atoms))) ≡ longest (named_symbols l.atoms)
