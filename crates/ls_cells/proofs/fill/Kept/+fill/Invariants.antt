use Rattle.ls_lists.specs.Sides.{height}
use Rattle.ls_intern.specs.Places.{specifiers_at}
use Rattle.ls_cells.proofs.fill.Kept.+fill.Given as goal

abbrev pub decreases-fill : goal.decreases-fill
decreases-fill g l = height (specifiers_at l.table.now l.list.now)
