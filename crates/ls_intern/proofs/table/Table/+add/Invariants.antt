use Rattle.std.proofs.Common.{map, take}
use Rattle.ls_spec.specs.Meaning.{specifier}
use Rattle.ls_intern.proofs.AddingLemmas.{AreAdded}
use Rattle.ls_intern.proofs.table.Table.+add.Given as goal

abbrev pub invariant-add_all-loop-spec : goal.invariant-add_all-loop-spec
invariant-add_all-loop-spec l = AreAdded l.fn.self l.self l.ids (take l.spec-index (map specifier l.specs))
