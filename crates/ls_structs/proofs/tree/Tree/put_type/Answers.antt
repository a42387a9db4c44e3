use Rattle.std.proofs.Common.{ap, ◌∙◌, [], ◌∷◌, ◌++◌}
use Rattle.ls_structs.specs.declared.tree.Defined.TheVariants.{Structure}
use Rattle.ls_structs.specs.Trees.{types}
use Rattle.ls_structs.proofs.PutLemmas.{put_new, types_with_structure, new_is_no_type, listed_is_type}
use Rattle.ls_structs.proofs.tree.Tree.put_type.Goals as goal

pub push-requires-clause-is_new : goal.push-requires-clause-is_new
push-requires-clause-is_new c =
    new_is_no_type c.args.self.now c.args.name.now c.in_ok-listed.listed c.self.inside.parents
    (c.self.invariant ∙ ap types c.self.view_is) c.in_ok-listed.ensures c.requires.is_new

pub push-requires-clause-is_before : goal.push-requires-clause-is_before
push-requires-clause-is_before c =
    listed_is_type c.args.self.now c.args.include.now c.in_ok-included.included c.self.inside.parents
    (c.self.invariant ∙ ap types c.self.view_is) (c.in_ok-included.ensures ∙ c.as_ref-2.ensures.value)
    c.requires.is_before

pub returns-clause-ok : goal.returns-clause-ok
returns-clause-ok c =
    put_new c.reserve.new.self.entries c.insert.new.self.entries c.in_ok-key.key (Structure c.in_ok-copy_name.field-0)
    c.args.self.now c.args.name.now (Structure c.args.include.now) (c.in_ok-reserve.ensures.entries ∙ c.self.view_is)
    c.in_ok-key.ensures (ap Structure (c.in_ok-copy_name.ensures ∙ c.as_ref.ensures.value)) c.requires.is_new
    c.in_ok-insert.ensures.entries

pub invariant_of-self-2 : goal.invariant_of-self-2
invariant_of-self-2 c =
    types_with_structure c.args.self.now c.insert.new.self.entries c.args.name.now c.args.include.now
    c.self.inside.parents c.push.new.self (c.self.invariant ∙ ap types c.self.view_is)
    (c.in_ok-push.ensures.ok
    ∙ ap (λ n. c.self.inside.parents ++ (n, c.in_ok-included.included) ∷ []) c.in_ok-listed.ensures
    ∙ ap (λ o. c.self.inside.parents ++ (c.args.name.now, o) ∷ [])
    (c.in_ok-included.ensures ∙ c.as_ref-2.ensures.value))
    (put_new c.reserve.new.self.entries c.insert.new.self.entries c.in_ok-key.key (Structure c.in_ok-copy_name.field-0)
    c.args.self.now c.args.name.now (Structure c.args.include.now) (c.in_ok-reserve.ensures.entries ∙ c.self.view_is)
    c.in_ok-key.ensures (ap Structure (c.in_ok-copy_name.ensures ∙ c.as_ref.ensures.value)) c.requires.is_new
    c.in_ok-insert.ensures.entries)
