use Rattle.std.proofs.Common.{◌≡◌, ◌<◌, sym, ◌∙◌, subst, arith}
use Rattle.std.specs.Bool.{Decides}
use Rattle.ls_spec.specs.Specifier.{Specifier, no_objects}
use Rattle.ls_spec.specs.Inclusion.{IsIncluded}
use Rattle.ls_spec.specs.Truth.{IsLearnt}
use Rattle.ls_intern.specs.Places.{at, specifiers_at}
use Rattle.ls_sides.proofs.GatherLemmas.{below_at}
use Rattle.ls_decide.specs.steps.Comparing.{IsOver}
use Rattle.ls_decide.proofs.RightLemmas.{place_decides}
use Rattle.ls_decide.proofs.EntryLemmas.{entry_at, entry_named, entries_long, entry_has, entries_learnt, upgrades_at, upgrades_last, none_more}
use Rattle.ls_decide.proofs.upgrade.first_holding.Goals as goal

pub place_outside-requires-clause-second : goal.place_outside-requires-clause-second
place_outside-requires-clause-second c =
    let long = entries_long c.args.table.now c.args.entries.now c.requires.entries in
    let here = c.loop-place-test.true in
    below_at _ _ _ c.requires.below (omega (arith, long, here))

pub place_outside-requires-clause-second_over : goal.place_outside-requires-clause-second_over
place_outside-requires-clause-second_over c =
    let here = c.loop-place-test.true in
    let within : c.loop-place.place < 19 = omega (arith, here) in
    let atoms = specifiers_at c.args.table.now c.args.cells.now.atoms in
    subst (IsOver atoms) (entry_at c.loop-place.place within no_objects ∙ sym (entry_named c.args.table.now c.args.entries.now c.loop-place.place c.requires.entries within))
    (c.requires.entries_over c.loop-place.place no_objects within)

pub returns-then-is_none : goal.returns-then-is_none
returns-then-is_none c = λ structures learnt of_e are.
    let here = c.loop-place-test.true in
    let within : c.loop-place.place < 19 = omega (arith, here) in
    let e = at c.args.table.now c.args.element in
    let is = entry_named c.args.table.now c.args.entries.now c.loop-place.place c.requires.entries within in
    let of_entry = subst (IsLearnt structures learnt) (sym is) (entry_has (IsLearnt structures learnt) (entries_learnt structures learnt) c.loop-place.place within) in
    let decides = place_decides structures e _ c.args.cells.now.rows c.in_ok-place_outside.field-0 c.is_none.result c.is_none.ensures c.in_ok-place_outside.ensures.within
    (c.in_ok-place_outside.ensures.right structures learnt of_e of_entry are) in
    upgrades_at structures e c.loop-place.place within (c.loop-place.invariant structures learnt of_e are) (subst (IsIncluded structures e) is (decides.0 c.if-is_none.true))

pub loop-place-preserved : goal.loop-place-preserved
loop-place-preserved c = λ structures learnt of_e are.
    let here = c.loop-place-test.true in
    let within : c.loop-place.place < 19 = omega (arith, here) in
    let e = at c.args.table.now c.args.element in
    let is = entry_named c.args.table.now c.args.entries.now c.loop-place.place c.requires.entries within in
    let of_entry = subst (IsLearnt structures learnt) (sym is) (entry_has (IsLearnt structures learnt) (entries_learnt structures learnt) c.loop-place.place within) in
    let decides = place_decides structures e _ c.args.cells.now.rows c.in_ok-place_outside.field-0 c.is_none.result c.is_none.ensures c.in_ok-place_outside.ensures.within
    (c.in_ok-place_outside.ensures.right structures learnt of_e of_entry are) in
    none_more structures e c.loop-place.place c.is_none.result (c.loop-place.invariant structures learnt of_e are)
    (subst (λ (s : Specifier). Decides c.is_none.result (IsIncluded structures e s)) is decides) c.if-is_none.false

pub returns : goal.returns
returns c = λ structures learnt of_e are.
    let past = c.loop-place-test.false in
    let last : c.loop-place.place ≡ 18 = omega (arith, past) in
    upgrades_last structures (at c.args.table.now c.args.element) c.loop-place.place last (c.loop-place.invariant structures learnt of_e are)
