use Rattle.std.proofs.Common.{◌≡◌}
use Rattle.indexmap.specs.IndexMap.{insert_all}
use Rattle.ls_object.specs.Symbols.{same_symbol}
use Rattle.ls_structs.proofs.tree.copy_names.Given as goal

abbrev pub invariant-loop-name : goal.invariant-loop-name
invariant-loop-name l = insert_all same_symbol l.copied.entries l.name-iterator ≡ l.names.entries
