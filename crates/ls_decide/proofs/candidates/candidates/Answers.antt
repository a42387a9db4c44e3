use Rattle.ls_decide.proofs.CandidateLemmas.{candidates_from}
use Rattle.ls_decide.proofs.candidates.candidates.Goals as goal

pub returns : goal.returns
returns c = candidates_from _ _ _ _ _ c.weigh.ensures c.in_ok-arrays.ensures c.plus.ensures c.plus-2.ensures
