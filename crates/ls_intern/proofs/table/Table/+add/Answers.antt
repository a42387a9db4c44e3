use Rattle.std.proofs.Common.{map, arith, ap, sym, ◌∙◌, ◌<◌, length}
use Rattle.std.proofs.lemmas.List.{get_or-map, length-map}
use Rattle.ls_spec.specs.Meaning.{specifier}
use Rattle.ls_intern.proofs.AddingLemmas.{added_more}
use Rattle.ls_intern.proofs.table.Table.+add.Goals as goal

pub add_all-loop-spec-preserved : goal.add_all-loop-spec-preserved
add_all-loop-spec-preserved t c =
    let within : c.loop-spec.spec-index < length c.args.specs.now = omega arith in
    added_more c.args.self.now c.loop-spec.self c.add.new.self _ _ (map specifier c.args.specs.now) c.loop-spec.spec-index _ (specifier c.spec-item.result) (omega (arith, length-map c.args.specs.now specifier, within))
    (ap specifier c.spec-item.is ∙ sym (get_or-map specifier c.args.specs.now c.loop-spec.spec-index _ _ within))
    c.loop-spec.invariant c.in_ok-id.ensures.grows c.in_ok-id.ensures.within c.in_ok-id.ensures.is c.in_ok-push.ensures.ok
