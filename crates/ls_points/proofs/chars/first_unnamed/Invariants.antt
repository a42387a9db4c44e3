use Rattle.ls_points.specs.steps.Characters.{AreNamedBetween}
use Rattle.ls_points.proofs.chars.first_unnamed.Given as goal

abbrev pub invariant-loop-code : goal.invariant-loop-code
invariant-loop-code l = AreNamedBetween l.named.keys l.class l.start l.code
