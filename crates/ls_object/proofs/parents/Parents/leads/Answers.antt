use Rattle.std.proofs.Common.{arith}
use Rattle.std.proofs.lemmas.Bool.{false≢true}
use Rattle.std.proofs.lemmas.Bool.Decides.{Decides-eqb}
use Rattle.ls_object.proofs.PlaceLemmas.{way_on, way_ends, way_done, step_is_back, step_is_within}
use Rattle.ls_object.proofs.parents.Parents.leads.Goals as goal

pub loop-at-preserved : goal.loop-at-preserved
loop-at-preserved c = (
  step_is_within c.args.self.now c.loop-at.at c.in-Some.up c.loop-at.invariant.0 c.in-Some.ensures,
  λ x y at to. way_on c.args.self.now x y c.loop-at.at c.args.to c.in-Some.up c.requires.order to c.loop-at-test.true c.in-Some.ensures (c.loop-at.invariant.1 x y at to),
)

pub loop-at-smaller : goal.loop-at-smaller
loop-at-smaller c = step_is_back c.args.self.now c.loop-at.at c.in-Some.up c.loop-at.invariant.0 c.in-Some.ensures

pub returns-in-None : goal.returns-in-None
returns-in-None c = λ x y at to. (
  λ e. absurd (false≢true e),
  λ u. absurd (way_ends c.args.self.now x y c.loop-at.at c.args.to c.requires.order to c.loop-at-test.true c.in-None.ensures (c.loop-at.invariant.1 x y at to) u),
)

pub returns : goal.returns
returns c = λ x y at to.
    way_done c.args.self.now x y c.loop-at.at c.args.to _ c.requires.order to (omega (arith, c.loop-at-test.false)) (Decides-eqb c.loop-at.at c.args.to) (c.loop-at.invariant.1 x y at to)
