use Rattle.ls_decide.proofs.RightLemmas.{place_right, place_within}
use Rattle.ls_decide.proofs.compare.place_outside.Goals as goal

pub returns : goal.returns
returns c = record {
  right = λ structures learnt of_a of_b are.
      place_right structures learnt _ _ are _ _ of_a of_b _ _
      (λ o j here. c.in_ok-inside.ensures.holds learnt o j c.requires.first_over here)
      (λ o j here. c.in_ok-allowed.ensures.holds learnt o j c.requires.second_over here)
      c.place_outside.result c.place_outside.ensures c.in_ok-inside.ensures.len;
  within = place_within _ _ _ c.place_outside.result c.place_outside.ensures c.in_ok-inside.ensures.len;
}
