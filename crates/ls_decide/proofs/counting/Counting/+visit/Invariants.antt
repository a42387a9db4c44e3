use Rattle.ls_lists.specs.Sides.{height}
use Rattle.ls_intern.specs.Places.{specifiers_at}
use Rattle.ls_decide.proofs.counting.Counting.+visit.Given as goal

abbrev pub decreases-visit : goal.decreases-visit
decreases-visit l = height (specifiers_at l.table.now l.list.now)
