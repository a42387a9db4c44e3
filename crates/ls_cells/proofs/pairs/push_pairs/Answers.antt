use Rattle.std.proofs.Common.{◌≤◌, ◌+◌, length, subst, sym}
use Rattle.std.proofs.lemmas.List.{length-map}
use Rattle.ls_intern.specs.Places.{at, specifiers_at}
use Rattle.ls_cells.specs.declared.side.Side.TheVariants as side_variant
use Rattle.ls_cells.specs.steps.Halves.{AreHalves}
use Rattle.ls_cells.proofs.CrossLemmas.{factor_same}
use Rattle.ls_cells.proofs.HalfLemmas.{halves_long, halves_plain, halves_count}
use Rattle.ls_cells.proofs.ConsLemmas.{pairs_add, equal_long}
use Rattle.ls_cells.proofs.pairs.push_pairs.Goals as goal

pub push_crossed-requires-clause-long : goal.push_crossed-requires-clause-long
push_crossed-requires-clause-long g c =
    let first = subst (AreHalves side_variant.Car (specifiers_at c.args.table.now c.args.cars.now.atoms) (specifiers_at c.args.table.now c.args.atoms.now) c.args.cars.now.rows) (sym c.as_slice.ensures.value) c.in_ok-cars.ensures in
    let second = subst (AreHalves side_variant.Cdr (specifiers_at c.args.table.now c.args.cdrs.now.atoms) (specifiers_at c.args.table.now c.args.atoms.now) c.args.cdrs.now.rows) (sym c.as_slice-2.ensures.value) c.in_ok-cdrs.ensures in
    equal_long (length c.args.atoms.now) c.as_slice.result.now c.as_slice-2.result.now
    (halves_long side_variant.Car (specifiers_at c.args.table.now c.args.cars.now.atoms) (specifiers_at c.args.table.now c.args.atoms.now) c.args.cars.now.rows c.as_slice.result.now (length c.args.atoms.now) (length-map c.args.atoms.now (at c.args.table.now)) first)
    (halves_long side_variant.Cdr (specifiers_at c.args.table.now c.args.cdrs.now.atoms) (specifiers_at c.args.table.now c.args.atoms.now) c.args.cdrs.now.rows c.as_slice-2.result.now (length c.args.atoms.now) (length-map c.args.atoms.now (at c.args.table.now)) second)

pub push_crossed-requires-clause-cars : goal.push_crossed-requires-clause-cars
push_crossed-requires-clause-cars g c =
    let first = subst (AreHalves side_variant.Car (specifiers_at c.args.table.now c.args.cars.now.atoms) (specifiers_at c.args.table.now c.args.atoms.now) c.args.cars.now.rows) (sym c.as_slice.ensures.value) c.in_ok-cars.ensures in
    halves_plain side_variant.Car (specifiers_at c.args.table.now c.args.cars.now.atoms) (specifiers_at c.args.table.now c.args.atoms.now) c.args.cars.now.rows c.as_slice.result.now first

pub push_crossed-requires-clause-cdrs : goal.push_crossed-requires-clause-cdrs
push_crossed-requires-clause-cdrs g c =
    let second = subst (AreHalves side_variant.Cdr (specifiers_at c.args.table.now c.args.cdrs.now.atoms) (specifiers_at c.args.table.now c.args.atoms.now) c.args.cdrs.now.rows) (sym c.as_slice-2.ensures.value) c.in_ok-cdrs.ensures in
    halves_plain side_variant.Cdr (specifiers_at c.args.table.now c.args.cdrs.now.atoms) (specifiers_at c.args.table.now c.args.atoms.now) c.args.cdrs.now.rows c.as_slice-2.result.now second

pub returns-in_err-push_crossed-clause-most : goal.returns-in_err-push_crossed-clause-most
returns-in_err-push_crossed-clause-most g c =
    let first = subst (AreHalves side_variant.Car (specifiers_at c.args.table.now c.args.cars.now.atoms) (specifiers_at c.args.table.now c.args.atoms.now) c.args.cars.now.rows) (sym c.as_slice.ensures.value) c.in_ok-cars.ensures in
    let second = subst (AreHalves side_variant.Cdr (specifiers_at c.args.table.now c.args.cdrs.now.atoms) (specifiers_at c.args.table.now c.args.atoms.now) c.args.cdrs.now.rows) (sym c.as_slice-2.ensures.value) c.in_ok-cdrs.ensures in
    subst (λ n. c.push_crossed.new.steps ≤ c.args.steps.now + n) (factor_same (length c.as_slice.result.now) (length c.as_slice-2.result.now) (length c.args.cars.now.rows) (length c.args.cdrs.now.rows)
    (halves_count side_variant.Car (specifiers_at c.args.table.now c.args.cars.now.atoms) (specifiers_at c.args.table.now c.args.atoms.now) c.args.cars.now.rows c.as_slice.result.now first)
    (halves_count side_variant.Cdr (specifiers_at c.args.table.now c.args.cdrs.now.atoms) (specifiers_at c.args.table.now c.args.atoms.now) c.args.cdrs.now.rows c.as_slice-2.result.now second)) c.push_crossed.ensures.most

pub returns-in_err-push_crossed-clause-long : goal.returns-in_err-push_crossed-clause-long
returns-in_err-push_crossed-clause-long g c =
    let first = subst (AreHalves side_variant.Car (specifiers_at c.args.table.now c.args.cars.now.atoms) (specifiers_at c.args.table.now c.args.atoms.now) c.args.cars.now.rows) (sym c.as_slice.ensures.value) c.in_ok-cars.ensures in
    c.push_crossed.ensures.long (length c.args.atoms.now)
    (halves_long side_variant.Car (specifiers_at c.args.table.now c.args.cars.now.atoms) (specifiers_at c.args.table.now c.args.atoms.now) c.args.cars.now.rows c.as_slice.result.now (length c.args.atoms.now) (length-map c.args.atoms.now (at c.args.table.now)) first)

pub returns-clause-most : goal.returns-clause-most
returns-clause-most g c =
    let first = subst (AreHalves side_variant.Car (specifiers_at c.args.table.now c.args.cars.now.atoms) (specifiers_at c.args.table.now c.args.atoms.now) c.args.cars.now.rows) (sym c.as_slice.ensures.value) c.in_ok-cars.ensures in
    let second = subst (AreHalves side_variant.Cdr (specifiers_at c.args.table.now c.args.cdrs.now.atoms) (specifiers_at c.args.table.now c.args.atoms.now) c.args.cdrs.now.rows) (sym c.as_slice-2.ensures.value) c.in_ok-cdrs.ensures in
    subst (λ n. c.push_crossed.new.steps ≤ c.args.steps.now + n) (factor_same (length c.as_slice.result.now) (length c.as_slice-2.result.now) (length c.args.cars.now.rows) (length c.args.cdrs.now.rows)
    (halves_count side_variant.Car (specifiers_at c.args.table.now c.args.cars.now.atoms) (specifiers_at c.args.table.now c.args.atoms.now) c.args.cars.now.rows c.as_slice.result.now first)
    (halves_count side_variant.Cdr (specifiers_at c.args.table.now c.args.cdrs.now.atoms) (specifiers_at c.args.table.now c.args.atoms.now) c.args.cdrs.now.rows c.as_slice-2.result.now second)) c.push_crossed.ensures.most

pub returns-clause-long : goal.returns-clause-long
returns-clause-long g c =
    let first = subst (AreHalves side_variant.Car (specifiers_at c.args.table.now c.args.cars.now.atoms) (specifiers_at c.args.table.now c.args.atoms.now) c.args.cars.now.rows) (sym c.as_slice.ensures.value) c.in_ok-cars.ensures in
    c.push_crossed.ensures.long (length c.args.atoms.now)
    (halves_long side_variant.Car (specifiers_at c.args.table.now c.args.cars.now.atoms) (specifiers_at c.args.table.now c.args.atoms.now) c.args.cars.now.rows c.as_slice.result.now (length c.args.atoms.now) (length-map c.args.atoms.now (at c.args.table.now)) first)

pub returns-clause-rows : goal.returns-clause-rows
returns-clause-rows g c = λ structures learnt list are cars_are cdrs_are cars cdrs.
    let first = subst (AreHalves side_variant.Car (specifiers_at c.args.table.now c.args.cars.now.atoms) (specifiers_at c.args.table.now c.args.atoms.now) c.args.cars.now.rows) (sym c.as_slice.ensures.value) c.in_ok-cars.ensures in
    let second = subst (AreHalves side_variant.Cdr (specifiers_at c.args.table.now c.args.cdrs.now.atoms) (specifiers_at c.args.table.now c.args.atoms.now) c.args.cdrs.now.rows) (sym c.as_slice-2.ensures.value) c.in_ok-cdrs.ensures in
    pairs_add structures learnt list (specifiers_at c.args.table.now c.args.atoms.now)
    (specifiers_at c.args.table.now c.args.cars.now.atoms) (specifiers_at c.args.table.now c.args.cdrs.now.atoms) c.args.cars.now.rows c.args.cdrs.now.rows c.as_slice.result.now c.as_slice-2.result.now c.args.rows.now c.push_crossed.new.rows
    are cars_are cdrs_are cars cdrs first second c.in_ok-push_crossed.ensures.rows
