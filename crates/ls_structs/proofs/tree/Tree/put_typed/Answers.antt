use Rattle.std.proofs.Common.{refl, ap, ◌∙◌}
use Rattle.ls_structs.specs.declared.tree.Defined.TheVariants.{Typed}
use Rattle.ls_structs.specs.Trees.{types}
use Rattle.ls_structs.proofs.PutLemmas.{put_new, types_with_typed}
use Rattle.ls_structs.proofs.tree.Tree.put_typed.Goals as goal

pub returns-clause-ok : goal.returns-clause-ok
returns-clause-ok c =
    put_new c.self.inside.names.entries c.insert.new.self.entries c.in_ok-key.key Typed c.args.self.now c.args.name.now
    Typed c.self.view_is c.in_ok-key.ensures refl c.requires c.in_ok-insert.ensures.entries

pub invariant_of-self-2 : goal.invariant_of-self-2
invariant_of-self-2 c =
    types_with_typed c.args.self.now c.insert.new.self.entries c.args.name.now c.self.inside.parents
    (c.self.invariant ∙ ap types c.self.view_is)
    (put_new c.self.inside.names.entries c.insert.new.self.entries c.in_ok-key.key Typed c.args.self.now c.args.name.now
    Typed c.self.view_is c.in_ok-key.ensures refl c.requires c.in_ok-insert.ensures.entries)
