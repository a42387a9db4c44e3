use Rattle.std.proofs.Common.{length, ap, sym, arith, subst, ◌∙◌, ◌≡◌}
use Rattle.ls_intern.specs.Places.{PartsBelow, at, node_specifier}
use Rattle.ls_intern.specs.Filling.{specifiers_of_nodes}
use Rattle.ls_intern.proofs.FillingLemmas.{specifiers_length, specifier_of_place, parts_before}
use Rattle.ls_intern.proofs.table.Table.node.Goals as goal

pub index-requires : goal.index-requires
index-requires c = let n = specifiers_length c.self.inside.nodes.items in let v = ap length c.self.view_is in omega arith

pub returns-clause-says : goal.returns-clause-says
returns-clause-says c =
    let n = specifiers_length c.self.inside.nodes.items in
    let v = ap length c.self.view_is in
    let e = sym c.index.ensures in
    subst (λ x. node_specifier x c.index.result.now ≡ at x c.args.id) c.self.view_is
    (sym (specifier_of_place c.self.inside.nodes.items c.args.id c.index.result.now c.self.invariant.ordered (omega arith) ∙ ap (node_specifier (specifiers_of_nodes c.self.inside.nodes.items)) e))

pub returns-clause-before : goal.returns-clause-before
returns-clause-before c =
    let n = specifiers_length c.self.inside.nodes.items in
    let v = ap length c.self.view_is in
    let e = sym c.index.ensures in
    subst (PartsBelow c.args.id) e (parts_before c.self.inside.nodes.items c.args.id c.index.result.now c.self.invariant.ordered (omega arith))
