use Rattle.std.proofs.Common.{◌≡◌, ◌≤◌, ◌+◌, ◌-◌, ◌∙◌, subst, length, take, drop, arith}
use Rattle.std.proofs.lemmas.List.{length-take}
use Rattle.ls_io.proofs.MovesLemmas.{Took-more}
use Rattle.ls_io.proofs.all.write_all.Goals as goal

-- one more piece is written, and the room that is left is less by its length
pub loop-at-preserved : goal.loop-at-preserved
loop-at-preserved g c = record {
  within = omega (arith, c.in-Ok.ensures);
  taken = Took-more _ _ _ _ _ _ c.loop-at.invariant.taken c.in-Ok.ensures.bytes;
  quiet = c.in-Ok.ensures.cause.passed ∙ c.loop-at.invariant.quiet;
  sound = λ room enough fits.
      (let prior = c.loop-at.invariant.sound room enough fits in
      let left = length c.args.bytes.now - c.loop-at.at in
      let short : length (take left (drop c.loop-at.at c.args.bytes.now)) ≤ room - c.loop-at.at = omega (arith, fits, length-take left (drop c.loop-at.at c.args.bytes.now)) in
      let step = c.in-Ok.ensures.sound (room - c.loop-at.at) prior short in
      let rest : room - c.loop-at.at - c.in-Ok.count ≡ room - (c.loop-at.at + c.in-Ok.count) = omega arith in
      subst (λ more. g.K.Sink.has_room c.write.new.self more) rest step.1);
}
