use Rattle.std.proofs.Common.{arith, ap, sym, subst, ◌∙◌, [], ◌∷◌}
use Rattle.std.specs.Option.{option_copied}
use Rattle.std.proofs.lemmas.Result.{on_ok_weaker}
use Rattle.ls_lists.specs.Costs.{elements_in}
use Rattle.ls_intern.specs.Places.{at}
use Rattle.ls_sides.specs.Gathering.{Gathers}
use Rattle.ls_sides.proofs.GatherLemmas.{below_at, gathers_none, gathers_both, gathers_whole}
use Rattle.ls_sides.proofs.NodeLemmas.{branches_below, sides_some}
use Rattle.ls_decide.proofs.NodeLemmas.{branches_elements, element_some, sides_elements, no_elements}
use Rattle.ls_decide.proofs.cost.+add_elements.Goals as goal

pub add_elements-requires : goal.add_elements-requires
add_elements-requires t c =
    let e = element_some c.args.table.now c.args.id c.node-node.result.now c.in-Some.element c.node-node.ensures.before (sym c.element.ensures ∙ c.in-Some.is) in
    (omega (arith, c.decreases, e.0), (omega (arith, e.0, c.requires.id), c.requires.out))

pub add-requires : goal.add-requires
add-requires t c =
    let e = element_some c.args.table.now c.args.id c.node-node.result.now c.in-Some.element c.node-node.ensures.before (sym c.element.ensures ∙ c.in-Some.is) in
    record { id = omega (arith, e.0, c.requires.id); out = c.in_ok-add_elements.ensures.below }

pub returns-in-Some : goal.returns-in-Some
returns-in-Some t c =
    let e = element_some c.args.table.now c.args.id c.node-node.result.now c.in-Some.element c.node-node.ensures.before (sym c.element.ensures ∙ c.in-Some.is) in
    let f = ap elements_in (sym c.node-node.ensures.says) ∙ e.1.1 in
    on_ok_weaker _ (λ g. subst (Gathers c.args.table.now c.args.out.now _) (sym f) (gathers_both c.args.table.now c.args.out.now _ _ (elements_in (at c.args.table.now c.in-Some.element)) (at c.args.table.now c.in-Some.element ∷ []) c.in_ok-add_elements.ensures g)) c.add.ensures

pub add_elements-requires-in-Some-cons_sides : goal.add_elements-requires-in-Some-cons_sides
add_elements-requires-in-Some-cons_sides t c =
    let e = sides_some c.args.table.now c.args.id c.node-node.result.now c.in-Some-cons_sides.car c.in-Some-cons_sides.cdr c.node-node.ensures.before (sym c.cons_sides.ensures ∙ c.in-Some-cons_sides.is) in
    (omega (arith, c.decreases, e.0.0), (omega (arith, e.0.0, c.requires.id), c.requires.out))

pub add_elements-requires-in-Some-cons_sides-2 : goal.add_elements-requires-in-Some-cons_sides-2
add_elements-requires-in-Some-cons_sides-2 t c =
    let e = sides_some c.args.table.now c.args.id c.node-node.result.now c.in-Some-cons_sides.car c.in-Some-cons_sides.cdr c.node-node.ensures.before (sym c.cons_sides.ensures ∙ c.in-Some-cons_sides.is) in
    (omega (arith, c.decreases, e.0.1), (omega (arith, e.0.1, c.requires.id), c.in_ok-add_elements-2.ensures.below))

pub returns-in-Some-cons_sides : goal.returns-in-Some-cons_sides
returns-in-Some-cons_sides t c =
    let f = ap elements_in (sym c.node-node.ensures.says) ∙ sides_elements c.args.table.now c.node-node.result.now c.in-Some-cons_sides.car c.in-Some-cons_sides.cdr (sym c.cons_sides.ensures ∙ c.in-Some-cons_sides.is) in
    on_ok_weaker _ (λ g. subst (Gathers c.args.table.now c.args.out.now _) (sym f) (gathers_both c.args.table.now c.args.out.now _ _ _ _ c.in_ok-add_elements-2.ensures g)) c.add_elements-in-Some-cons_sides-2.ensures

pub add_elements-requires-in-loop-part : goal.add_elements-requires-in-loop-part
add_elements-requires-in-loop-part t c =
    let b = branches_below c.args.id c.node-node.result.now c.in-Some-branches.parts.now c.node-node.ensures.before (sym c.branches.ensures ∙ ap option_copied c.in-Some-branches.is) in
    let h = below_at c.args.id c.in-Some-branches.parts.now c.loop-part.part-index b c.loop-part-test.true in
    (omega (arith, c.decreases), (omega (arith, c.requires.id), c.loop-part.invariant.below))

pub returns-in-None : goal.returns-in-None
returns-in-None t c =
    let e = ap elements_in (sym c.node-node.ensures.says)
    ∙ no_elements c.args.table.now c.node-node.result.now (sym c.branches.ensures ∙ ap option_copied c.in-None.is) (sym c.cons_sides.ensures ∙ c.in_default-cons_sides.is) (sym c.element.ensures ∙ c.in_default.is) in
    subst (Gathers c.args.table.now c.args.out.now c.args.out.now) (sym e) (gathers_none c.args.table.now c.args.out.now c.requires.out)

pub returns-after-loop-part : goal.returns-after-loop-part
returns-after-loop-part t c =
    let e = ap elements_in (sym c.node-node.ensures.says) ∙ branches_elements c.args.table.now c.node-node.result.now c.in-Some-branches.parts.now (sym c.branches.ensures ∙ ap option_copied c.in-Some-branches.is) in
    subst (Gathers c.args.table.now c.args.out.now c.loop-part.out) (sym e) (gathers_whole elements_in c.args.table.now c.in-Some-branches.parts.now c.loop-part.part-index _ _ (omega arith) c.loop-part.invariant)
