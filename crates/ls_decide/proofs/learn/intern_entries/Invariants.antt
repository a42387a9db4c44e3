use Rattle.std.proofs.Common.{take, ◌≡◌, map, length}
use Rattle.ls_object.specs.declared.table.TheConstants.{UPGRADING_TABLE}
use Rattle.ls_spec.specs.Entries.{entry_specifier}
use Rattle.ls_intern.specs.Places.{specifiers_at, AllBelow, Extends}
use Rattle.ls_cells.specs.Kept.{structures_in, specifiers_in, codes_in, entries_in}
use Rattle.ls_decide.proofs.learn.intern_entries.Given as goal

abbrev pub invariant-loop-index : goal.invariant-loop-index
invariant-loop-index l =
    (structures_in l.store ≡ structures_in l.fn.store)
    × ((codes_in l.store ≡ codes_in l.fn.store)
    × ((entries_in l.store ≡ entries_in l.fn.store)
    × (Extends (specifiers_in l.fn.store) (specifiers_in l.store)
    × (AllBelow (length (specifiers_in l.store)) l.ids.items
    × (specifiers_at (specifiers_in l.store) l.ids.items ≡ map entry_specifier (take l.index UPGRADING_TABLE))))))
