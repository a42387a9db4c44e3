use Rattle.std.proofs.Common.{◌≡◌, ◌++◌, ◌∷◌, [], length, ap, sym, subst, ◌∙◌}
use Rattle.ls_intern.specs.Places.{at, node_specifier, PartsBelow, Extends}
use Rattle.ls_intern.specs.Filling.{specifiers_of_nodes, AreNodes}
use Rattle.ls_intern.proofs.PutLemmas.{IsPut, put_found, put_new}
use Rattle.ls_intern.proofs.table.Table.put.Goals.{Joined-node-19, After-push_reserved}
use Rattle.ls_intern.proofs.table.Table.put.Goals as goal

found : (c : Joined-node-19) → IsPut c.self.inside.nodes.items c.reserve.new.self.items c.args.node c.in_ok-id.id
found c =
    put_found c.self.inside.keys.keys c.insert_full.new.self.keys c.self.inside.nodes.items c.reserve.new.self.items c.args.key c.args.node c.in_ok-id.id c.in_ok-id.is_new c.self.invariant c.requires.key
    c.in_ok-id.ensures.keys c.in_ok-id.ensures.added c.in_ok-id.ensures.stored c.if-not-is_new.true c.reserve.ensures.items

pub returns-then-not-is_new-clause-within : goal.returns-then-not-is_new-clause-within
returns-then-not-is_new-clause-within c = (found c).within

pub returns-then-not-is_new-clause-is : goal.returns-then-not-is_new-clause-is
returns-then-not-is_new-clause-is c = subst (λ known. at (specifiers_of_nodes c.reserve.new.self.items) c.in_ok-id.id ≡ node_specifier known c.args.node) c.self.view_is (found c).is

put : (c : After-push_reserved) → IsPut c.self.inside.nodes.items c.push_reserved.new.self.items c.args.node c.in_ok-id.id × AreNodes c.insert_full.new.self.keys c.push_reserved.new.self.items
put c =
    put_new c.self.inside.keys.keys c.insert_full.new.self.keys c.self.inside.nodes.items c.push_reserved.new.self.items c.args.key c.args.node c.in_ok-id.id c.in_ok-id.is_new c.self.invariant c.requires.key
    (subst (λ known. PartsBelow (length known) c.args.node) (sym c.self.view_is) c.requires.before)
    c.in_ok-id.ensures.keys c.in_ok-id.ensures.added c.in_ok-id.ensures.stored c.if-not-is_new.false
    (c.push_reserved.ensures.items ∙ ap (λ l. l ++ c.args.node ∷ []) c.reserve.ensures.items)

pub invariant_of-self-2 : goal.invariant_of-self-2
invariant_of-self-2 c = (put c).1

pub returns-clause-grows : goal.returns-clause-grows
returns-clause-grows c = subst (λ old. Extends old (specifiers_of_nodes c.push_reserved.new.self.items)) c.self.view_is (put c).0.grows

pub returns-clause-within : goal.returns-clause-within
returns-clause-within c = (put c).0.within

pub returns-clause-is : goal.returns-clause-is
returns-clause-is c = subst (λ known. at (specifiers_of_nodes c.push_reserved.new.self.items) c.in_ok-id.id ≡ node_specifier known c.args.node) c.self.view_is (put c).0.is
