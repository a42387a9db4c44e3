use Rattle.std.proofs.Common.{[], true≢false, sym, refl, ◌∙◌}
use Rattle.ls_object.specs.Universe.{node, structure}
use Rattle.ls_spec.specs.Meaning.{specifier}
use Rattle.ls_spec.specs.Membership.{Belongs}
use Rattle.ls_spec.proofs.ListLemmas.{AllByRecursion-whole}
use Rattle.ls_points.proofs.StructLemmas.{all_of, not_all_of, some_of, none_of}
use Rattle.ls_points.proofs.structs.+is_in.Goals as goal

pub is_in_all-returns-then-not-is_in : goal.is_in_all-returns-then-not-is_in
is_in_all-returns-then-not-is_in t c = (
  λ e. cc,
  λ all. absurd (not_all_of c.args.parents.now (node [] (structure c.args.name.now)) c.args.parts.now c.part-item.result (c.loop-part.part-index, c.loop-part-test.true, sym c.part-item.is) (λ h. true≢false (sym (c.is_in.ensures.1 h) ∙ c.if-not-is_in.true)) all),
)

pub is_in_all-returns : goal.is_in_all-returns
is_in_all-returns t c = (
  λ _. all_of c.args.parents.now (node [] (structure c.args.name.now)) c.args.parts.now
      (AllByRecursion-whole (λ s. Belongs c.args.parents.now (specifier s) (node [] (structure c.args.name.now))) c.args.parts.now c.loop-part.part-index c.loop-part-test.false c.loop-part.invariant),
  λ _. refl,
)

pub is_in_some-returns-then-is_in : goal.is_in_some-returns-then-is_in
is_in_some-returns-then-is_in t c = (
  λ _. some_of c.args.parents.now (node [] (structure c.args.name.now)) c.args.parts.now c.part-item.result (c.loop-part.part-index, c.loop-part-test.true, sym c.part-item.is) (c.is_in.ensures.0 c.if-is_in.true),
  λ _. refl,
)

pub is_in_some-returns : goal.is_in_some-returns
is_in_some-returns t c = (
  λ e. cc,
  λ some. absurd (none_of c.args.parents.now (node [] (structure c.args.name.now)) c.args.parts.now
      (AllByRecursion-whole (λ s. Belongs c.args.parents.now (specifier s) (node [] (structure c.args.name.now)) → ⊥) c.args.parts.now c.loop-part.part-index c.loop-part-test.false c.loop-part.invariant) some),
)
