use Rattle.std.proofs.Common.{◌≡◌, map, take}
use Rattle.ls_spec.specs.Meaning.{specifier}
use Rattle.ls_intern.specs.Places.{specifiers_at}
use Rattle.ls_cells.proofs.make.trees.Given as goal

abbrev pub invariant-loop-id : goal.invariant-loop-id
invariant-loop-id l = map specifier l.specs ≡ specifiers_at l.table (take l.id-index l.ids)
