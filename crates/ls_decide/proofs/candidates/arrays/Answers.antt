use Rattle.ls_decide.proofs.CandidateLemmas.{arrays_from}
use Rattle.ls_decide.proofs.candidates.arrays.Goals as goal

pub returns : goal.returns
returns c = arrays_from _ _ _ _ _ c.in_ok-codes.ensures c.in_ok-shapes.ensures c.plus.ensures c.times.ensures
