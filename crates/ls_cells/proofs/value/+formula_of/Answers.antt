use Rattle.std.proofs.Common.{arith, subst, sym, ◌≡◌}
use Rattle.ls_intern.specs.declared.node.Node.TheVariants as node
use Rattle.ls_intern.specs.Places.{at, specifiers_at, node_specifier, AllBelow, PartsBelow}
use Rattle.ls_intern.proofs.TreeLemmas.{above_least, below_above, below_at}
use Rattle.ls_cells.proofs.ValueLemmas.{below_more, formulas_more, all_formula, none_formula, and_formula, or_formula, not_formula}
use Rattle.ls_cells.proofs.value.+formula_of.Goals as goal

pub formula_of-formulas_of-requires : goal.formula_of-formulas_of-requires
formula_of-formulas_of-requires t c =
    let b = subst (AllBelow c.args.id) (sym c.as_slice.ensures) (subst (PartsBelow c.args.id) c.in-And.is c.node-node.ensures.before) in
    (omega (arith, c.decreases, above_least c.args.id c.as_slice.result.now b), below_more c.args.id _ c.as_slice.result.now (omega (arith, c.requires)) b)

pub formula_of-formulas_of-requires-in-Or : goal.formula_of-formulas_of-requires-in-Or
formula_of-formulas_of-requires-in-Or t c =
    let b = subst (AllBelow c.args.id) (sym c.as_slice-in-Or.ensures) (subst (PartsBelow c.args.id) c.in-Or.is c.node-node.ensures.before) in
    (omega (arith, c.decreases, above_least c.args.id c.as_slice-in-Or.result.now b), below_more c.args.id _ c.as_slice-in-Or.result.now (omega (arith, c.requires)) b)

pub formula_of-returns-in-All : goal.formula_of-returns-in-All
formula_of-returns-in-All t c =
    all_formula _ (at c.args.table.now c.args.id) (subst (λ x. node_specifier c.args.table.now x ≡ at c.args.table.now c.args.id) c.in-All.is c.node-node.ensures.says)

pub formula_of-returns-in-Nothing : goal.formula_of-returns-in-Nothing
formula_of-returns-in-Nothing t c =
    none_formula _ (at c.args.table.now c.args.id) (subst (λ x. node_specifier c.args.table.now x ≡ at c.args.table.now c.args.id) c.in-Nothing.is c.node-node.ensures.says)

pub formula_of-returns-in_ok-parts-in-And : goal.formula_of-returns-in_ok-parts-in-And
formula_of-returns-in_ok-parts-in-And t c =
    and_formula (specifiers_at c.args.table.now c.args.atoms.now) (specifiers_at c.args.table.now c.as_slice.result.now) c.in_ok-parts-in-And.parts (at c.args.table.now c.args.id) c.in_ok-parts-in-And.ensures
    (subst (λ ids. node_specifier c.args.table.now (node.And ids) ≡ at c.args.table.now c.args.id) (sym c.as_slice.ensures)
    (subst (λ x. node_specifier c.args.table.now x ≡ at c.args.table.now c.args.id) c.in-And.is c.node-node.ensures.says))

pub formula_of-returns-in_ok-parts-in-Or : goal.formula_of-returns-in_ok-parts-in-Or
formula_of-returns-in_ok-parts-in-Or t c =
    or_formula (specifiers_at c.args.table.now c.args.atoms.now) (specifiers_at c.args.table.now c.as_slice-in-Or.result.now) c.in_ok-parts-in-Or.parts (at c.args.table.now c.args.id) c.in_ok-parts-in-Or.ensures
    (subst (λ ids. node_specifier c.args.table.now (node.Or ids) ≡ at c.args.table.now c.args.id) (sym c.as_slice-in-Or.ensures)
    (subst (λ x. node_specifier c.args.table.now x ≡ at c.args.table.now c.args.id) c.in-Or.is c.node-node.ensures.says))

pub formula_of-returns-in_ok-new-in-Not : goal.formula_of-returns-in_ok-new-in-Not
formula_of-returns-in_ok-new-in-Not t c =
    not_formula (specifiers_at c.args.table.now c.args.atoms.now) (at c.args.table.now c.in-Not.part) (at c.args.table.now c.args.id) c.in_ok-part-in-Not.part c.in_ok-new-in-Not.field-0 c.in_ok-part-in-Not.ensures c.in_ok-new-in-Not.ensures
    (subst (λ x. node_specifier c.args.table.now x ≡ at c.args.table.now c.args.id) c.in-Not.is c.node-node.ensures.says)

pub formulas_of-formula_of-requires : goal.formulas_of-formula_of-requires
formulas_of-formula_of-requires t c =
    (omega (arith, c.decreases, below_above c.args.ids.now c.loop-id.id-index 0 c.loop-id-test.true), below_at _ c.args.ids.now c.loop-id.id-index 0 c.requires c.loop-id-test.true)

pub formulas_of-loop-id-preserved : goal.formulas_of-loop-id-preserved
formulas_of-loop-id-preserved t c =
    formulas_more c.args.table.now (specifiers_at c.args.table.now c.args.atoms.now) c.args.ids.now c.loop-id.id-index c.loop-id.formulas _ c.in_ok-formula.formula c.loop-id-test.true c.loop-id.invariant c.in_ok-formula.ensures c.in_ok-push.ensures.ok
