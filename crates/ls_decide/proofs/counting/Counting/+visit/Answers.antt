use Rattle.std.proofs.Common.{arith, ap, subst, sym, ◌∙◌, ◌<◌}
use Rattle.std.specs.Option.{option_copied}
use Rattle.ls_lists.specs.Walks.{walk, total}
use Rattle.ls_intern.specs.Places.{specifiers_at}
use Rattle.ls_decide.specs.steps.Counting.{Counts, lists_counted}
use Rattle.ls_decide.proofs.CountLemmas.{counted_empty, counted_before, not_done, is_some, is_empty_list, cars_at, cdrs_at, atoms_at, cars_lower, cdrs_lower, cars_pass, cdrs_pass, walk_at, total_pass, counted_all, absent_after, low_total}
use Rattle.ls_decide.proofs.counting.Counting.+visit.Goals as goal

pub returns-then-is_empty : goal.returns-then-is_empty
returns-then-is_empty t c = counted_empty c.args.table.now _ c.args.self.now.entries _ (is_empty_list c.args.table.now c.args.list.now c.is_empty.result c.is_empty.ensures c.if-is_empty.true) c.requires.counts

pub returns-in-Some : goal.returns-in-Some
returns-in-Some t c = counted_before c.args.table.now c.args.list.now c.args.self.now.entries _ _ c.requires.counts (sym c.get.ensures ∙ ap option_copied c.in-Some.is)

pub visit-requires : goal.visit-requires
visit-requires t c =
    let cars = (cars_at c.args.table.now (specifiers_at c.args.table.now c.args.list.now) c.in_ok-sides.sides.atoms c.in_ok-sides.sides.cars c.in_ok-sides.sides.cdrs c.as_slice.result.now c.in_ok-sides.ensures c.as_slice.ensures) in
    let h = cars_lower c.args.table.now (specifiers_at c.args.table.now c.args.list.now) c.as_slice.result.now (is_some c.args.table.now c.args.list.now c.is_empty.result c.is_empty.ensures c.if-is_empty.false) cars.0 in
    (omega (arith, c.decreases), (cars.1, (c.requires.counts, c.requires.budget)))

pub visit-requires-2 : goal.visit-requires-2
visit-requires-2 t c =
    let cdrs = (cdrs_at c.args.table.now (specifiers_at c.args.table.now c.args.list.now) c.in_ok-sides.sides.atoms c.in_ok-sides.sides.cars c.in_ok-sides.sides.cdrs c.as_slice-2.result.now c.in_ok-sides.ensures c.as_slice-2.ensures) in
    let h = cdrs_lower c.args.table.now (specifiers_at c.args.table.now c.args.list.now) c.as_slice-2.result.now (is_some c.args.table.now c.args.list.now c.is_empty.result c.is_empty.ensures c.if-is_empty.false) cdrs.0 in
    let first = (subst (Counts c.args.table.now (specifiers_at c.args.table.now c.as_slice.result.now) c.args.budget c.args.self.now.entries c.visit.new.self.entries c.visit.new.self.total) c.in-Some-2.is c.in_ok-first.ensures) in
    (omega (arith, c.decreases), (cdrs.1, (first.counts, c.requires.budget)))

pub returns-in_default-2 : goal.returns-in_default-2
returns-in_default-2 t c =
    let cars = (cars_at c.args.table.now (specifiers_at c.args.table.now c.args.list.now) c.in_ok-sides.sides.atoms c.in_ok-sides.sides.cars c.in_ok-sides.sides.cdrs c.as_slice.result.now c.in_ok-sides.ensures c.as_slice.ensures) in
    let h = (subst (Counts c.args.table.now (specifiers_at c.args.table.now c.as_slice.result.now) c.args.budget c.args.self.now.entries c.visit.new.self.entries c.visit.new.self.total) c.in_default-2.is c.in_ok-first.ensures) in
    cars_pass c.args.budget (specifiers_at c.args.table.now c.args.list.now) (lists_counted c.args.table.now c.args.self.now.entries) (not_done c.args.table.now c.len-distinct.ensures.distinct c.args.list.now c.args.self.now.entries c.args.self.now.total c.requires.list c.requires.counts (is_some c.args.table.now c.args.list.now c.is_empty.result c.is_empty.ensures c.if-is_empty.false) (sym c.get.ensures ∙ ap option_copied c.in_default.is)) (subst (λ l. c.args.budget < total (walk l (lists_counted c.args.table.now c.args.self.now.entries))) cars.0 h)

pub returns-in_default-3 : goal.returns-in_default-3
returns-in_default-3 t c =
    let cars = (cars_at c.args.table.now (specifiers_at c.args.table.now c.args.list.now) c.in_ok-sides.sides.atoms c.in_ok-sides.sides.cars c.in_ok-sides.sides.cdrs c.as_slice.result.now c.in_ok-sides.ensures c.as_slice.ensures) in
    let cdrs = (cdrs_at c.args.table.now (specifiers_at c.args.table.now c.args.list.now) c.in_ok-sides.sides.atoms c.in_ok-sides.sides.cars c.in_ok-sides.sides.cdrs c.as_slice-2.result.now c.in_ok-sides.ensures c.as_slice-2.ensures) in
    let first = (subst (Counts c.args.table.now (specifiers_at c.args.table.now c.as_slice.result.now) c.args.budget c.args.self.now.entries c.visit.new.self.entries c.visit.new.self.total) c.in-Some-2.is c.in_ok-first.ensures) in
    let h = (subst (Counts c.args.table.now (specifiers_at c.args.table.now c.as_slice-2.result.now) c.args.budget c.visit.new.self.entries c.visit-2.new.self.entries c.visit-2.new.self.total) c.in_default-3.is c.in_ok-second.ensures) in
    let e = first.lists_are ∙ ap (λ l. walk l (lists_counted c.args.table.now c.args.self.now.entries)) cars.0 in
    cdrs_pass c.args.budget (specifiers_at c.args.table.now c.args.list.now) (lists_counted c.args.table.now c.args.self.now.entries) (not_done c.args.table.now c.len-distinct.ensures.distinct c.args.list.now c.args.self.now.entries c.args.self.now.total c.requires.list c.requires.counts (is_some c.args.table.now c.args.list.now c.is_empty.result c.is_empty.ensures c.if-is_empty.false) (sym c.get.ensures ∙ ap option_copied c.in_default.is)) (walk_at c.args.budget _ _ _ _ cdrs.0 e h)

pub add-requires : goal.add-requires
add-requires t c =
    let cars = (cars_at c.args.table.now (specifiers_at c.args.table.now c.args.list.now) c.in_ok-sides.sides.atoms c.in_ok-sides.sides.cars c.in_ok-sides.sides.cdrs c.as_slice.result.now c.in_ok-sides.ensures c.as_slice.ensures) in
    let cdrs = (cdrs_at c.args.table.now (specifiers_at c.args.table.now c.args.list.now) c.in_ok-sides.sides.atoms c.in_ok-sides.sides.cars c.in_ok-sides.sides.cdrs c.as_slice-2.result.now c.in_ok-sides.ensures c.as_slice-2.ensures) in
    let atoms = (atoms_at c.args.table.now (specifiers_at c.args.table.now c.args.list.now) c.in_ok-sides.sides.atoms c.in_ok-sides.sides.cars c.in_ok-sides.sides.cdrs c.as_slice-3.result.now c.in_ok-sides.ensures c.as_slice-3.ensures) in
    let first = (subst (Counts c.args.table.now (specifiers_at c.args.table.now c.as_slice.result.now) c.args.budget c.args.self.now.entries c.visit.new.self.entries c.visit.new.self.total) c.in-Some-2.is c.in_ok-first.ensures) in
    let second = (subst (Counts c.args.table.now (specifiers_at c.args.table.now c.as_slice-2.result.now) c.args.budget c.visit.new.self.entries c.visit-2.new.self.entries c.visit-2.new.self.total) c.in-Some-3.is c.in_ok-second.ensures) in
    record {
      atoms = atoms.1;
      pairs = omega (arith, c.times.ensures);
      total = low_total _ _ _ second.counts;
      absent = absent_after c.args.table.now c.args.list.now c.as_slice.result.now c.as_slice-2.result.now c.args.self.now.entries _ _ _ _ _ _ (not_done c.args.table.now c.len-distinct.ensures.distinct c.args.list.now c.args.self.now.entries c.args.self.now.total c.requires.list c.requires.counts (is_some c.args.table.now c.args.list.now c.is_empty.result c.is_empty.ensures c.if-is_empty.false) (sym c.get.ensures ∙ ap option_copied c.in_default.is)) cars.0 cdrs.0 first second;
    }

pub returns-then-self-budget : goal.returns-then-self-budget
returns-then-self-budget t c =
    let cars = (cars_at c.args.table.now (specifiers_at c.args.table.now c.args.list.now) c.in_ok-sides.sides.atoms c.in_ok-sides.sides.cars c.in_ok-sides.sides.cdrs c.as_slice.result.now c.in_ok-sides.ensures c.as_slice.ensures) in
    let cdrs = (cdrs_at c.args.table.now (specifiers_at c.args.table.now c.args.list.now) c.in_ok-sides.sides.atoms c.in_ok-sides.sides.cars c.in_ok-sides.sides.cdrs c.as_slice-2.result.now c.in_ok-sides.ensures c.as_slice-2.ensures) in
    let atoms = (atoms_at c.args.table.now (specifiers_at c.args.table.now c.args.list.now) c.in_ok-sides.sides.atoms c.in_ok-sides.sides.cars c.in_ok-sides.sides.cdrs c.as_slice-3.result.now c.in_ok-sides.ensures c.as_slice-3.ensures) in
    let first = (subst (Counts c.args.table.now (specifiers_at c.args.table.now c.as_slice.result.now) c.args.budget c.args.self.now.entries c.visit.new.self.entries c.visit.new.self.total) c.in-Some-2.is c.in_ok-first.ensures) in
    let second = (subst (Counts c.args.table.now (specifiers_at c.args.table.now c.as_slice-2.result.now) c.args.budget c.visit.new.self.entries c.visit-2.new.self.entries c.visit-2.new.self.total) c.in-Some-3.is c.in_ok-second.ensures) in
    let all = counted_all c.args.table.now c.args.list.now c.as_slice.result.now c.as_slice-2.result.now c.args.self.now.entries _ _ _ _ _ _ _ _ _ _ c.requires.list (is_some c.args.table.now c.args.list.now c.is_empty.result c.is_empty.ensures c.if-is_empty.false) (not_done c.args.table.now c.len-distinct.ensures.distinct c.args.list.now c.args.self.now.entries c.args.self.now.total c.requires.list c.requires.counts (is_some c.args.table.now c.args.list.now c.is_empty.result c.is_empty.ensures c.if-is_empty.false) (sym c.get.ensures ∙ ap option_copied c.in_default.is)) cars.0 cdrs.0 first second c.times.ensures (c.in_ok-n.ensures (specifiers_at c.args.table.now c.args.list.now) atoms.0) in
    total_pass c.args.table.now (specifiers_at c.args.table.now c.args.list.now) c.args.self.now.entries _ c.args.budget _ _ all c.if-self-budget.true

pub returns : goal.returns
returns t c =
    let cars = (cars_at c.args.table.now (specifiers_at c.args.table.now c.args.list.now) c.in_ok-sides.sides.atoms c.in_ok-sides.sides.cars c.in_ok-sides.sides.cdrs c.as_slice.result.now c.in_ok-sides.ensures c.as_slice.ensures) in
    let cdrs = (cdrs_at c.args.table.now (specifiers_at c.args.table.now c.args.list.now) c.in_ok-sides.sides.atoms c.in_ok-sides.sides.cars c.in_ok-sides.sides.cdrs c.as_slice-2.result.now c.in_ok-sides.ensures c.as_slice-2.ensures) in
    let atoms = (atoms_at c.args.table.now (specifiers_at c.args.table.now c.args.list.now) c.in_ok-sides.sides.atoms c.in_ok-sides.sides.cars c.in_ok-sides.sides.cdrs c.as_slice-3.result.now c.in_ok-sides.ensures c.as_slice-3.ensures) in
    let first = (subst (Counts c.args.table.now (specifiers_at c.args.table.now c.as_slice.result.now) c.args.budget c.args.self.now.entries c.visit.new.self.entries c.visit.new.self.total) c.in-Some-2.is c.in_ok-first.ensures) in
    let second = (subst (Counts c.args.table.now (specifiers_at c.args.table.now c.as_slice-2.result.now) c.args.budget c.visit.new.self.entries c.visit-2.new.self.entries c.visit-2.new.self.total) c.in-Some-3.is c.in_ok-second.ensures) in
    counted_all c.args.table.now c.args.list.now c.as_slice.result.now c.as_slice-2.result.now c.args.self.now.entries _ _ _ _ _ _ _ _ _ _ c.requires.list (is_some c.args.table.now c.args.list.now c.is_empty.result c.is_empty.ensures c.if-is_empty.false) (not_done c.args.table.now c.len-distinct.ensures.distinct c.args.list.now c.args.self.now.entries c.args.self.now.total c.requires.list c.requires.counts (is_some c.args.table.now c.args.list.now c.is_empty.result c.is_empty.ensures c.if-is_empty.false) (sym c.get.ensures ∙ ap option_copied c.in_default.is)) cars.0 cdrs.0 first second c.times.ensures (c.in_ok-n.ensures (specifiers_at c.args.table.now c.args.list.now) atoms.0)
