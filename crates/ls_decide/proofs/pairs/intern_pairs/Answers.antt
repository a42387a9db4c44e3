use Rattle.ls_decide.proofs.InternLemmas.{pair_grown}
use Rattle.ls_decide.proofs.pairs.intern_pairs.Goals as goal

pub returns-clause-are : goal.returns-clause-are
returns-clause-are c = record { own = pair_grown _ _ _ _ _ c.in_ok-bounds.ensures.grows c.in_ok-own.ensures.is; bounds = c.in_ok-bounds.ensures.are }
