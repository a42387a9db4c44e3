use Rattle.std.proofs.Common.{take, ◌≡◌, map, length}
use Rattle.ls_object.specs.declared.table.TheConstants.{UPGRADING_TABLE}
use Rattle.ls_spec.specs.Entries.{entry_specifier}
use Rattle.ls_intern.specs.Places.{specifiers_at, AllBelow, Extends}
use Rattle.ls_decide.proofs.cost.add_entries.Given as goal

abbrev pub invariant-loop-index : goal.invariant-loop-index
invariant-loop-index l =
    Extends l.fn.table l.table
    × (AllBelow (length l.table) l.ids.items × (specifiers_at l.table l.ids.items ≡ map entry_specifier (take l.index UPGRADING_TABLE)))
