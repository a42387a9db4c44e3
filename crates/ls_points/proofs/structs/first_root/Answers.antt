use Rattle.std.proofs.Common.{◌≡◌, sym, subst, Option, None}
use Rattle.std.specs.List.{Contains}
use Rattle.std.proofs.lemmas.Bool.Decides.{when_true, when_false}
use Rattle.ls_object.specs.declared.symbol.Symbol.{Symbol}
use Rattle.ls_spec.proofs.ListLemmas.{AllByRecursion-more}
use Rattle.ls_points.specs.steps.Inheriting.{IsOneOf, IsNewRoot, IsRootNamed}
use Rattle.ls_points.proofs.structs.first_root.Goals as goal

pair_is : (p : Symbol × Option Symbol) (x : Symbol) → p.0 ≡ x → p.1 ≡ None → p ≡ (x, None)
pair_is p x e f = λ i. (e i, f i)

pub returns-then-branch-clause-root : goal.returns-then-branch-clause-root
returns-then-branch-clause-root c = λ names adds.
    let p = c.pair-item.result in
    let is = when_true (IsNewRoot names p) (IsRootNamed names p) c.if-branch.true (c.in_ok-is_unnamed_root.ensures names adds) in
    let there : Contains c.args.pairs.now p = (c.loop-pair.pair-index, c.loop-pair-test.true, sym c.pair-item.is) in (
      subst (Contains c.args.pairs.now) (pair_is p c.in_ok-copy.field-0 (sym c.in_ok-copy.ensures) is.0) there,
      λ o. is.1 (subst (λ x. IsOneOf x names) c.in_ok-copy.ensures o),
    )

pub loop-pair-preserved : goal.loop-pair-preserved
loop-pair-preserved c = λ names adds.
    let p = c.pair-item.result in
    AllByRecursion-more (IsRootNamed names) c.args.pairs.now c.loop-pair.pair-index p c.loop-pair-test.true c.pair-item.is (c.loop-pair.invariant names adds) (when_false (IsNewRoot names p) (IsRootNamed names p) c.if-branch.false (c.in_ok-is_unnamed_root.ensures names adds))
