use Rattle.std.proofs.Common.{rules, ◌∙◌, subst}
use Rattle.ls_object.specs.Inclusion.{IsInclusionOrder}
use Rattle.ls_object.proofs.PlaceLemmas.{may_be_next}
use Rattle.ls_object.proofs.parents.Parents.copy.Goals as goal

pub push-requires-clause-is_new : goal.push-requires-clause-is_new
push-requires-clause-is_new c =
    (may_be_next c.args.self.now c.as_slice-name-items.result.now c.loop-name.copied c.loop-name.name-index c.loop-name-item.result c.in_ok-copy.field-0 c.in_ok-copy_name.field-0
    (subst IsInclusionOrder c.self.view_is c.self.invariant.order) (c.as_slice-name-items.ensures ∙ c.self.view_is) (search rules) c.loop-name-item.is c.loop-name.invariant c.in_ok-copy.ensures c.in_ok-copy_name.ensures).0

pub push-requires-clause-is_before : goal.push-requires-clause-is_before
push-requires-clause-is_before c =
    (may_be_next c.args.self.now c.as_slice-name-items.result.now c.loop-name.copied c.loop-name.name-index c.loop-name-item.result c.in_ok-copy.field-0 c.in_ok-copy_name.field-0
    (subst IsInclusionOrder c.self.view_is c.self.invariant.order) (c.as_slice-name-items.ensures ∙ c.self.view_is) (search rules) c.loop-name-item.is c.loop-name.invariant c.in_ok-copy.ensures c.in_ok-copy_name.ensures).1
