use Rattle.std.proofs.Common.{◌≡◌, ◌++◌, take, drop}
use Rattle.ls_deftype.specs.LambdaLists.{none_repeats}
use Rattle.ls_deftype.proofs.reading.add_all.Given as goal

abbrev pub invariant-loop-symbol : goal.invariant-loop-symbol
invariant-loop-symbol l = record {
  fresh : none_repeats l.names (drop l.symbol-index l.symbols) ≡ none_repeats l.fn.names l.symbols;
  are : l.names ≡ l.fn.names ++ take l.symbol-index l.symbols;
}
