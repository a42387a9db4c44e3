use Rattle.std.proofs.Common.{◌≡◌, ◌+◌, ◌++◌, drop, subst, sym, ◌∙◌, arith}
use Rattle.std.specs.Prelude.{option_map}
use Rattle.ls_deftype.specs.LambdaLists.{item_of, optionals_of}
use Rattle.ls_deftype.proofs.LambdaLemmas.{each_next}
use Rattle.ls_deftype.proofs.lambda.optionals_of.Goals as goal

pub loop-item-preserved : goal.loop-item-preserved
loop-item-preserved c =
    subst (λ ps. option_map (λ qs. ps ++ qs) (optionals_of (drop (c.loop-item.item-index + 1) c.args.items.now)) ≡ optionals_of c.args.items.now) (sym c.in_ok-push.ensures.ok)
    (each_next item_of c.args.items.now c.loop-item.item-index c.item-item.result c.loop-item.parameters c.in-Some.parameter (omega arith) c.item-item.is
    (sym c.in_ok-parameter.ensures ∙ c.in-Some.is) c.loop-item.invariant)
