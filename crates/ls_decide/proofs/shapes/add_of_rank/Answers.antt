use Rattle.std.proofs.Common.{sym, subst}
use Rattle.ls_intern.specs.Places.{AllBelow}
use Rattle.ls_sides.proofs.GatherLemmas.{below_last}
use Rattle.ls_decide.proofs.shapes.add_of_rank.Goals as goal

pub returns-then-has_rank-clause-below : goal.returns-then-has_rank-clause-below
returns-then-has_rank-clause-below c = subst (AllBelow _) (sym c.in_ok-push.ensures.items) (below_last _ _ _ c.requires.out c.requires.id)
